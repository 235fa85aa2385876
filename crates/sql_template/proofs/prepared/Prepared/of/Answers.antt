use Rattle.std.proofs.Common.{◌≡◌, ◌∙◌, subst, sym, List, ℕ, Option, length}
use Rattle.std.specs.Prelude.{IfOk, IfSome}
use Rattle.sql_template.specs.Templates.{IsOpened}
use Rattle.sql_template.specs.declared.prepared.Prepared.{Prepared}
use Rattle.sql_template.specs.declared.template.Template.{Template}
use Rattle.sql_template.proofs.prepared.Prepared.of.Goals as goal

pub prepared_of-requires-clause-opened : goal.prepared_of-requires-clause-opened
prepared_of-requires-clause-opened c =
    (subst (λ (o : Option Template). IfSome o (λ t. IsOpened t × (t.text ≡ c.args.text.now) × (t.count ≡ length c.args.params.now))) c.in-Some.is
    (subst (λ n. IfSome c.in_ok-read.read (λ t. IsOpened t × (t.text ≡ c.args.text.now) × (t.count ≡ n))) c.len.ensures c.in_ok-read.ensures)).0

pub prepared_of-requires-clause-count : goal.prepared_of-requires-clause-count
prepared_of-requires-clause-count c =
    sym (subst (λ (o : Option Template). IfSome o (λ t. IsOpened t × (t.text ≡ c.args.text.now) × (t.count ≡ length c.args.params.now))) c.in-Some.is
    (subst (λ n. IfSome c.in_ok-read.read (λ t. IsOpened t × (t.text ≡ c.args.text.now) × (t.count ≡ n))) c.len.ensures c.in_ok-read.ensures)).2

pub returns-in-Some-clause-text : goal.returns-in-Some-clause-text
returns-in-Some-clause-text c =
    let same : c.in-Some.template.text ≡ c.args.text.now =
    (subst (λ (o : Option Template). IfSome o (λ t. IsOpened t × (t.text ≡ c.args.text.now) × (t.count ≡ length c.args.params.now))) c.in-Some.is
    (subst (λ n. IfSome c.in_ok-read.read (λ t. IsOpened t × (t.text ≡ c.args.text.now) × (t.count ≡ n))) c.len.ensures c.in_ok-read.ensures)).1 in
    subst (λ (text : List ℕ). IfOk c.prepared_of.result (λ made. IfSome made (λ (p : Prepared). p.template.text ≡ text))) same
    c.prepared_of.ensures.text
