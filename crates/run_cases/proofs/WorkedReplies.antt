-- The lines of values, rows and replies in the outcome text. Each line ends by LF.
use Rattle.std.specs.Prelude.{◌≡◌, refl, pos, negsuc, [], ◌∷◌, ◌++◌, codes}
use Rattle.std.specs.Fmt.{digits}
use Rattle.ldv_value.specs.declared.value.Value.TheVariants.{Null, Int, Text}
use Rattle.sql_model.specs.declared.reply.Reply.TheVariants.{Rows, Changed, Refused}
use Rattle.sql_model.specs.declared.reply.SqlRefusal.TheVariants.{Syntax, NoTable, NoColumn, TypeClash, NotNull, KeyTaken, Full, NoParent, HasChild}
use Rattle.run_model.specs.OutcomeText.{value_text, row_text, reply_text}

-- ---- values: `null`, or `int` and the number, or `text` and the number of bytes, and these on a line

null : value_text Null ≡ codes "null\n"
null = refl

zero_number : value_text (Int (pos 0)) ≡ codes "int 0\n"
unfolding digits
zero_number = refl

large_number : value_text (Int (pos 9223372036854775807)) ≡ codes "int 9223372036854775807\n"
unfolding digits
large_number = refl

-- `negsuc n` is -1 - n
negative_number : value_text (Int (negsuc 4)) ≡ codes "int -5\n"
unfolding digits
negative_number = refl

text : value_text (Text (codes "a b")) ≡ codes "text 3\na b\n"
unfolding digits
text = refl

empty_text : value_text (Text []) ≡ codes "text 0\n\n"
unfolding digits
empty_text = refl

-- what is in the text isn't looked at: three bytes with an LF among them
text_of_two_lines : value_text (Text (codes "a\nb")) ≡ codes "text 3\na\nb\n"
unfolding digits
text_of_two_lines = refl

-- bytes are counted and not characters: one of two bytes
text_of_one_character : value_text (Text (195 ∷ 169 ∷ [])) ≡ codes "text 2\n" ++ 195 ∷ 169 ∷ 10 ∷ []
unfolding digits
text_of_one_character = refl

-- ---- rows: `row`, the number of values, and the values

row : row_text (Int (pos 7) ∷ Null ∷ Text (codes "x") ∷ []) ≡ codes "row 3\nint 7\nnull\ntext 1\nx\n"
unfolding digits
row = refl

-- ---- replies

-- `rows`, their number, and the rows
rows : reply_text (Rows ((Int (pos 1) ∷ []) ∷ (Null ∷ []) ∷ [])) ≡ codes "rows 2\nrow 1\nint 1\nrow 1\nnull\n"
unfolding digits
rows = refl

no_rows : reply_text (Rows []) ≡ codes "rows 0\n"
unfolding digits
no_rows = refl

-- `changed` and the number of rows
changed : reply_text (Changed 12) ≡ codes "changed 12\n"
unfolding digits
changed = refl

unchanged : reply_text (Changed 0) ≡ codes "changed 0\n"
unfolding digits
unchanged = refl

-- `refused` and the code: they are numbered in the order in which they are tried
refused_syntax : reply_text (Refused Syntax) ≡ codes "refused 1\n"
unfolding digits
refused_syntax = refl

refused_no_table : reply_text (Refused NoTable) ≡ codes "refused 2\n"
unfolding digits
refused_no_table = refl

refused_no_column : reply_text (Refused NoColumn) ≡ codes "refused 3\n"
unfolding digits
refused_no_column = refl

refused_type_clash : reply_text (Refused TypeClash) ≡ codes "refused 4\n"
unfolding digits
refused_type_clash = refl

refused_not_null : reply_text (Refused NotNull) ≡ codes "refused 5\n"
unfolding digits
refused_not_null = refl

refused_full : reply_text (Refused Full) ≡ codes "refused 7\n"
unfolding digits
refused_full = refl

-- a taken key: also the table, the number of values of the key, and the values
refused_key : reply_text (Refused (KeyTaken (codes "items") (Text (codes "ab") ∷ Int (pos 3) ∷ [])))
    ≡ codes "refused 6 items 2\ntext 2\nab\nint 3\n"
unfolding digits
refused_key = refl

-- a key without a row in the parent: the parent, and the values by which a row refers
refused_parent : reply_text (Refused (NoParent (codes "customers") (Int (pos 7) ∷ [])))
    ≡ codes "refused 8 customers 1\nint 7\n"
unfolding digits
refused_parent = refl

-- a key that rows still refer to: their table, and those values
refused_child : reply_text (Refused (HasChild (codes "orders") (Text (codes "ab") ∷ Int (pos 3) ∷ [])))
    ≡ codes "refused 9 orders 2\ntext 2\nab\nint 3\n"
unfolding digits
refused_child = refl
