-- Tokens that borrow from a text and from its parameters.
use Rattle.sql_model.specs.declared.token.Token.{Token}
use Rattle.sql_model.specs.declared.token.Token.TheVariants as token
use Rattle.sql_parse.specs.declared.token.Lent.{Lent}
use Rattle.sql_parse.specs.declared.token.Lent.TheVariants as lent

-- the token by itself
abbrev pub token_of : Lent → Token
token_of (lent.Word w) = token.Word w.now
token_of (lent.Number z) = token.Number z
token_of (lent.Quoted t) = token.Quoted t
token_of (lent.Given v) = token.Given v.now
