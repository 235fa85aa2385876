-- A text that was read with its parameters open.
use Rattle.std.specs.Prelude.{IsUtf8}
use Rattle.sql_template.specs.Preparing.{IsTemplate}
use Rattle.sql_template.specs.declared.template.Template.{Template}

-- the statement was read from the text, with marks for its parameters
pub record IsOpened (t : Template) : Type 0 where
  pub utf8 : IsUtf8 t.text
  pub read : IsTemplate t.text t.count t.base
