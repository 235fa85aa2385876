-- Values as text.
use Rattle.std.specs.Prelude.{ℕ, List, codes}
use Rattle.std.specs.Fmt.{signed_decimal}
use Rattle.ldv_value.specs.declared.value.Value.{Value}
use Rattle.ldv_value.specs.declared.value.Value.TheVariants.{Null, Int, Text}

-- the decimal number, the text itself, or NULL
abbrev pub value_text : Value → List ℕ
value_text Null = codes "NULL"
value_text (Int z) = signed_decimal z
value_text (Text text) = text
