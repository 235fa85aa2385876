-- The steps of `let`, `cut`, `goto`, `if`, `print` and `exit`: they change their own process alone.
use Rattle.std.specs.Prelude.{ℕ, ◌+◌, ℤ, pos, negsuc, ◌+ℤ◌, ◌-ℤ◌, ◌*ℤ◌, List, [], ◌∷◌, ◌++◌, length, take}
use Rattle.std.specs.Prelude.{drop, Bool, true, false, ◌||◌, ◌==◌, nat_lt, if◌then◌else◌, Option, Some, None}
use Rattle.std.specs.List.{flat_map}
use Rattle.ldv_value.specs.Limits.{printed_limit, text_limit}
use Rattle.ldv_value.specs.Order.{order, meets}
use Rattle.ldv_value.specs.Shown.{value_text}
use Rattle.ldv_value.specs.declared.value.Cmp.{Cmp}
use Rattle.script_parse.specs.Number.{number_of}
use Rattle.sql_model.specs.Meaning.{is_null}
use Rattle.run_model.specs.Types.{Value, Null, Int, Text, Operand, Variable, CalcOp, Add, Subtract, Multiply}
use Rattle.run_model.specs.Core.{Process}
use Rattle.run_model.specs.StepBase.{operand_value, operand_values, with_exit_status, went_on, went_to}
use Rattle.run_model.specs.StepBase.{with_variable}
use Rattle.run_model.specs.StepBase.{wrong_kind, too_long_status, Computation, Yields, Misused}
use Rattle.run_model.specs.StepBase.{number_within, assign}

-- ---- `let x = v`: the variable gets the value

abbrev pub let_value : List ℕ → Operand → Process → Process
let_value to value p = assign to (Yields (operand_value p value)) p

-- ---- `let x = v + w`, also with `-` and `*`: of two numbers, and the exact result has to fit in 64 bits

abbrev pub result_of : CalcOp → ℤ → ℤ → ℤ
result_of Add m n = m +ℤ n
result_of Subtract m n = m -ℤ n
result_of Multiply m n = m *ℤ n

abbrev pub calculation : CalcOp → Value → Value → Computation
calculation op Null w = Misused wrong_kind
calculation op (Int m) Null = Misused wrong_kind
calculation op (Int m) (Int n) = number_within (result_of op m n)
calculation op (Int m) (Text t) = Misused wrong_kind
calculation op (Text s) w = Misused wrong_kind

abbrev pub calculate : List ℕ → CalcOp → Operand → Operand → Process → Process
calculate to op left right p = assign to (calculation op (operand_value p left) (operand_value p right)) p

-- ---- `let x = v ++ w`: the shown values joined; neither may be NULL

abbrev pub text_within : List ℕ → Computation
text_within text = if nat_lt text_limit (length text) then Misused too_long_status else Yields (Text text)

abbrev pub concatenation : Value → Value → Computation
concatenation v w = if is_null v || is_null w then Misused wrong_kind
    else text_within (value_text v ++ value_text w)

abbrev pub glue : List ℕ → Operand → Operand → Process → Process
glue to left right p = assign to (concatenation (operand_value p left) (operand_value p right)) p

-- ---- `let x = int v`: a number stays, and a text that writes a number becomes it

abbrev pub number_or_misuse : Option ℤ → Computation
number_or_misuse None = Misused wrong_kind
number_or_misuse (Some z) = Yields (Int z)

abbrev pub to_number : Value → Computation
to_number Null = Misused wrong_kind
to_number (Int z) = Yields (Int z)
to_number (Text t) = number_or_misuse (number_of t)

abbrev pub let_number : List ℕ → Operand → Process → Process
let_number to value p = assign to (to_number (operand_value p value)) p

-- ---- `cut x y v`: x gets the part of the text y before the first v, and y the part after it

abbrev pub begins_with : List ℕ → List ℕ → Bool
begins_with [] text = true
begins_with (b ∷ bs) [] = false
begins_with (b ∷ bs) (c ∷ cs) = if b == c then begins_with bs cs else false

-- how many bytes stand before the first place where a text stands in another, after some that were passed
abbrev pub first_place : ℕ → List ℕ → List ℕ → Option ℕ
first_place passed by [] = None
first_place passed by (b ∷ bs) =
    if begins_with by (b ∷ bs) then Some passed else first_place (passed + 1) by bs

abbrev pub before_place : Option ℕ → List ℕ → List ℕ
before_place None text = text
before_place (Some n) text = take n text

-- nothing is left where it stands nowhere
abbrev pub after_place : Option ℕ → List ℕ → List ℕ → List ℕ
after_place None by text = []
after_place (Some n) by text = drop (n + length by) text

abbrev pub cut_at : List ℕ → List ℕ → Option ℕ → List ℕ → List ℕ → Process → Process
cut_at before after place by text p =
    went_on
    (with_variable after (Text (after_place place by text))
    (with_variable before (Text (before_place place text)) p))

-- by a text that isn't empty, of a text
abbrev pub cut_values : List ℕ → List ℕ → Value → Value → Process → Process
cut_values before after Null text p = with_exit_status wrong_kind p
cut_values before after (Int n) text p = with_exit_status wrong_kind p
cut_values before after (Text []) text p = with_exit_status wrong_kind p
cut_values before after (Text (b ∷ bs)) Null p = with_exit_status wrong_kind p
cut_values before after (Text (b ∷ bs)) (Int n) p = with_exit_status wrong_kind p
cut_values before after (Text (b ∷ bs)) (Text text) p =
    cut_at before after (first_place 0 (b ∷ bs) text) (b ∷ bs) text p

abbrev pub cut : List ℕ → List ℕ → Operand → Process → Process
cut before after by p = cut_values before after (operand_value p by) (operand_value p (Variable after)) p

-- ---- `if v = w goto L`, and the other comparisons: by the total order of values

abbrev pub jump_where : Bool → ℕ → Process → Process
jump_where true place p = went_to place p
jump_where false place p = went_on p

abbrev pub jump_if : Cmp → Operand → Operand → ℕ → Process → Process
jump_if op left right place p =
    jump_where (meets op (order (operand_value p left) (operand_value p right))) place p

-- ---- `print v v*`: the shown values and LF follow the printed bytes

abbrev pub printed_line : List Value → List ℕ
printed_line values = flat_map value_text values ++ 10 ∷ []

abbrev pub print_line : List ℕ → Process → Process
print_line text p =
    if nat_lt printed_limit (length p.printed + length text) then with_exit_status too_long_status p
    else went_on (record p { printed = p.printed ++ text })

abbrev pub print : List Operand → Process → Process
print operands p = print_line (printed_line (operand_values p operands)) p

-- ---- `exit v`: a number from 0 to 255

abbrev pub exit_status : Value → ℕ
exit_status Null = wrong_kind
exit_status (Int (pos n)) = if nat_lt n 256 then n else wrong_kind
exit_status (Int (negsuc n)) = wrong_kind
exit_status (Text t) = wrong_kind

abbrev pub exit : Operand → Process → Process
exit status p = with_exit_status (exit_status (operand_value p status)) p
