-- A text that was read and checked once.
use Rattle.std.specs.Prelude.{◌≡◌, ℕ, List, length, map, Ok, Some}
use Rattle.sql_model.specs.Kinds.{kind_of_value}
use Rattle.sql_model.specs.Places.{checked_of}
use Rattle.sql_model.specs.Texts.{statement_of}
use Rattle.sql_template.specs.Filling.{filled_statement}
use Rattle.sql_template.specs.Kinds.{FitsLimit}
use Rattle.sql_template.specs.Preparing.{given_in}
use Rattle.sql_template.specs.Templates.{IsOpened}
use Rattle.sql_template.specs.Types.{Catalog, Checked, Statement, Value}
use Rattle.sql_template.specs.declared.prepared.Prepared.{Prepared}
use Rattle.sql_template.specs.declared.template.Template.{Template}

-- parameters of the same kinds, one by one
abbrev pub HaveKinds : List Value → List Value → Type 0
HaveKinds ps qs = map kind_of_value ps ≡ map kind_of_value qs

-- the places that the check gives the statement of a template with these parameters, and LIMIT is a number of
-- rows with them
pub record ArePlacesOf (catalog : Catalog) (template : Template) (params : List Value)
    (places : List (List ℕ)) : Type 0 where
  pub limit : FitsLimit (given_in params) template.base
  pub given : let statement : Statement = filled_statement (given_in params) template.base in
      checked_of statement catalog ≡ Ok (record { statement = statement; places = places })

-- the check gave the places, with the parameters that were there
pub record IsPrepared (catalog : Catalog) (prepared : Prepared) : Type 0 where
  pub opened : IsOpened prepared.template
  pub count : length prepared.with ≡ prepared.template.count
  pub are : ArePlacesOf catalog prepared.template prepared.with prepared.places

-- a question of this text, with parameters of the kinds of the first ones
pub record IsQuestionOf (prepared : Prepared) (text : List ℕ) (params : List Value) : Type 0 where
  pub same : prepared.template.text ≡ text
  pub kinds : HaveKinds prepared.with params
  pub limit : FitsLimit (given_in params) prepared.template.base

-- what a text is with its parameters, as it is read and checked
pub record IsReadyFor (text : List ℕ) (params : List Value) (catalog : Catalog) (checked : Checked)
    : Type 0 where
  pub statement : statement_of text params ≡ Some checked.statement
  pub checked_so : checked_of checked.statement catalog ≡ Ok checked
