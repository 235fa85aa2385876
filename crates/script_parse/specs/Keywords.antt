-- The words and signs that instructions are written with.
use Rattle.std.specs.Prelude.{ℕ, List, [], ◌∷◌, Option, find, codes}
use Rattle.ldv_value.specs.declared.value.Cmp.{Cmp}
use Rattle.ldv_value.specs.declared.value.Cmp.TheVariants.{Eq, Ne, Lt, Le, Gt, Ge}
use Rattle.ldv_value.specs.declared.file.OpenMode.{OpenMode}
use Rattle.ldv_value.specs.declared.file.OpenMode.TheVariants as mode
use Rattle.script_parse.specs.declared.keyword.Keyword.{Keyword}
use Rattle.script_parse.specs.declared.keyword.Keyword.TheVariants.{Let, Cut, Goto, If, Print, Exit, Open}
use Rattle.script_parse.specs.declared.keyword.Keyword.TheVariants.{ReadLine, Write, Copy, Close, Remove}
use Rattle.script_parse.specs.declared.keyword.Keyword.TheVariants.{Exists, Spawn, Wait, Sql, Fetch, Count}
use Rattle.script_parse.specs.declared.keyword.Keyword.TheVariants.{Status}
use Rattle.script_parse.specs.declared.keyword.Sign.{Sign}
use Rattle.script_parse.specs.declared.keyword.Sign.TheVariants.{Plus, Minus, Times, Join}
use Rattle.script_parse.specs.Names.{is_text}

abbrev pub keyword_text : Keyword → List ℕ
keyword_text Let = codes "let"
keyword_text Cut = codes "cut"
keyword_text Goto = codes "goto"
keyword_text If = codes "if"
keyword_text Print = codes "print"
keyword_text Exit = codes "exit"
keyword_text Open = codes "open"
keyword_text ReadLine = codes "readline"
keyword_text Write = codes "write"
keyword_text Copy = codes "copy"
keyword_text Close = codes "close"
keyword_text Remove = codes "remove"
keyword_text Exists = codes "exists"
keyword_text Spawn = codes "spawn"
keyword_text Wait = codes "wait"
keyword_text Sql = codes "sql"
keyword_text Fetch = codes "fetch"
keyword_text Count = codes "count"
keyword_text Status = codes "status"

abbrev pub sign_text : Sign → List ℕ
sign_text Plus = codes "+"
sign_text Minus = codes "-"
sign_text Times = codes "*"
sign_text Join = codes "++"

abbrev pub comparison_text : Cmp → List ℕ
comparison_text Eq = codes "="
comparison_text Ne = codes "<>"
comparison_text Lt = codes "<"
comparison_text Le = codes "<="
comparison_text Gt = codes ">"
comparison_text Ge = codes ">="

abbrev pub mode_text : OpenMode → List ℕ
mode_text mode.Read = codes "r"
mode_text mode.Write = codes "w"
mode_text mode.Append = codes "a"
mode_text mode.New = codes "n"

abbrev pub keywords : List Keyword
keywords = Let ∷ Cut ∷ Goto ∷ If ∷ Print ∷ Exit ∷ Open ∷ ReadLine ∷ Write ∷ Copy ∷ Close ∷ Remove ∷ Exists
    ∷ Spawn ∷ Wait ∷ Sql ∷ Fetch ∷ Count ∷ Status ∷ []

abbrev pub signs : List Sign
signs = Plus ∷ Minus ∷ Times ∷ Join ∷ []

abbrev pub comparisons : List Cmp
comparisons = Eq ∷ Ne ∷ Lt ∷ Le ∷ Gt ∷ Ge ∷ []

abbrev pub modes : List OpenMode
modes = mode.Read ∷ mode.Write ∷ mode.Append ∷ mode.New ∷ []

-- what a word is among them
abbrev pub keyword_of : List ℕ → Option Keyword
keyword_of w = find (λ k. is_text w (keyword_text k)) keywords

abbrev pub sign_of : List ℕ → Option Sign
sign_of w = find (λ s. is_text w (sign_text s)) signs

abbrev pub comparison_of : List ℕ → Option Cmp
comparison_of w = find (λ c. is_text w (comparison_text c)) comparisons

abbrev pub mode_of : List ℕ → Option OpenMode
mode_of w = find (λ m. is_text w (mode_text m)) modes
