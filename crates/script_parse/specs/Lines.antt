-- The lines of a script, and what each says.
use Rattle.std.specs.Prelude.{ℕ, ◌+◌, List, [], ◌∷◌, Bool, false, not, ◌&&◌, ◌==◌, if◌then◌else◌, Option}
use Rattle.std.specs.Prelude.{Some, None, find}
use Rattle.std.specs.Str.{is_utf8}
use Rattle.script_parse.specs.declared.token.Token.{Token}
use Rattle.script_parse.specs.declared.line.Line.{Line}
use Rattle.script_parse.specs.declared.line.Line.TheVariants.{Blank, Label}
use Rattle.ldv_value.specs.Options.{only_if, ◌>>=◌}
use Rattle.script_parse.specs.Forms.{word_of, name_in, instruction_of}
use Rattle.script_parse.specs.Keywords.{keyword_of}
use Rattle.script_parse.specs.Tokens.{is_blank, tokens_of}

abbrev pub starts_with_feed : List ℕ → Bool
starts_with_feed [] = false
starts_with_feed (b ∷ bs) = b == 10

-- a byte at the front of the first line
abbrev pub grow : ℕ → List (List ℕ) → List (List ℕ)
grow b [] = (b ∷ []) ∷ []
grow b (line ∷ lines) = (b ∷ line) ∷ lines

-- The lines of bytes: each ends at an LF, and a CR right before it is no part of the line.
abbrev pub lines_of : List ℕ → List (List ℕ)
lines_of [] = []
lines_of (b ∷ bs) =
    if b == 10 then [] ∷ lines_of bs
    else if b == 13 && starts_with_feed bs then lines_of bs
    else grow b (lines_of bs)

-- what is before a colon at the end
abbrev pub before_colon : List ℕ → Option (List ℕ)
before_colon [] = None
before_colon (b ∷ []) = if b == 58 then Some [] else None
before_colon (b ∷ c ∷ bs) = before_colon (c ∷ bs) >>= λ front. Some (b ∷ front)

abbrev pub label_in : List ℕ → Option Line
label_in w = do
  front ← before_colon w
  name ← name_in front
  Some (Label name)

-- a line of one token is a label, and one of more an instruction
abbrev pub line_of_word : List ℕ → List Token → Option Line
line_of_word w [] = label_in w
line_of_word w (t ∷ ts) = keyword_of w >>= λ k. instruction_of k (t ∷ ts)

-- from the tokens of a line
abbrev pub form_of : List Token → Option Line
form_of [] = Some Blank
form_of (t ∷ ts) = word_of t >>= λ w. line_of_word w ts

-- the first byte that is no blank
abbrev pub first_nonblank : List ℕ → Option ℕ
first_nonblank line = find (λ b. not (is_blank b)) line

abbrev pub is_comment_start : Option ℕ → Bool
is_comment_start None = false
is_comment_start (Some b) = b == 35

abbrev pub is_comment : List ℕ → Bool
is_comment line = is_comment_start (first_nonblank line)

-- what a line says; `None` where it is bad in itself
abbrev pub line_of : List ℕ → Option Line
line_of line = only_if (is_utf8 line) (if is_comment line then Some Blank else (tokens_of line >>= form_of))
