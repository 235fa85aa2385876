-- The results of `parse`, by the grammar.
use Rattle.std.proofs.Common.{◌≡◌, ℕ, List, sym, ◌∙◌, Some, None}
use Rattle.std.specs.Prelude.{Result, Ok, Err, IfOk, IsErrOf, IsUtf8}
use Rattle.ldv_value.specs.declared.value.Value.{Value}
use Rattle.sql_model.specs.declared.statement.Statement.{Statement}
use Rattle.sql_parse.specs.declared.error.ParseStop.{ParseStop}
use Rattle.sql_parse.specs.declared.error.ParseStop.TheVariants.{Syntax, NoMemory}
use Rattle.sql_model.specs.GrammarOfStatements.{Reads}
use Rattle.sql_parse.specs.inner.Gives.{GivesParsed}
use Rattle.sql_model.specs.Texts.{statement_of}
use Rattle.sql_parse.proofs.StatementsLaw.{reading_sound, reading_complete}

pub reading_is : (text : List ℕ) (params : List Value) (r : Result Statement ParseStop) → GivesParsed r (statement_of text params) → IfOk r (λ s. Reads text params s)
reading_is text params (Ok s) h = reading_sound text params s h
reading_is text params (Err stop) h = tt

no_reading : (text : List ℕ) (params : List Value) → IsUtf8 text → statement_of text params ≡ None → (s : Statement) → ¬ Reads text params s
no_reading text params u h s reads =
    let both : None ≡ Some s = sym h ∙ reading_complete text params s u reads in
    absurd cc

pub none_is : (text : List ℕ) (params : List Value) (r : Result Statement ParseStop) → IsUtf8 text → GivesParsed r (statement_of text params) → IsErrOf r Syntax
    → (s : Statement) → ¬ Reads text params s
none_is text params (Ok s) u h e = absurd cc
none_is text params (Err Syntax) u h e = no_reading text params u h
none_is text params (Err NoMemory) u h e = absurd cc
