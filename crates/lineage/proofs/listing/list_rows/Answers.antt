use Rattle.std.proofs.Common.{◌≡◌, ◌∙◌, ◌++◌, ◌∷◌, ◌+◌, ◌-◌, ◌*◌, [], sym, ap, subst, arith, List, ℕ, Option, Some, None}
use Rattle.lanes.specs.Sets.{IsNext}
use Rattle.lineage.specs.inner.Blocks.{version_of}
use Rattle.lineage.specs.Lineage.{member}
use Rattle.lineage.proofs.ListedBlocks.{within_words, one_listed, all_listed}
use Rattle.sql_model.specs.declared.need.Member.{Member}
use Rattle.lineage.proofs.listing.list_rows.Goals as goal

pub members-preserved : goal.members-preserved
members-preserved c =
    let names = c.args.names.now in
    let block = c.args.block.now in
    let least : ℕ = c.in-Some.n in
    let next : IsNext block.words.items c.members.from (Some least) =
    subst (λ (ws : List ℕ). IsNext ws c.members.from (Some least)) c.deref.ensures.value
    (subst (λ (r : Option ℕ). IsNext c.deref.result.now c.members.from r) c.in-Some.is c.next_one.ensures) in
    let step : c.push.new.self ≡ c.members.members ++ member names ((c.args.place.0, 65536 * c.args.place.1 + least), version_of block.versions least) ∷ [] =
    c.in_ok-push.ensures.ok ∙ ap (λ (m : Member). c.members.members ++ m ∷ []) c.in_ok-member_at.ensures in (
      omega (arith, within_words block.words.items least c.requires.kept.long next.1, c.requires.end),
      one_listed names c.args.place.0 (65536 * c.args.place.1) c.args.end c.members.from least block c.members.members c.push.new.self c.requires.kept.long c.requires.end next step
          ∙ c.members.invariant.1,
    )

pub returns : goal.returns
returns c =
    let none : IsNext c.args.block.now.words.items c.members.from None =
    subst (λ (ws : List ℕ). IsNext ws c.members.from None) c.deref.ensures.value
    (subst (λ (r : Option ℕ). IsNext c.deref.result.now c.members.from r) c.in_default.is c.next_one.ensures) in
    sym (all_listed c.args.names.now c.args.place.0 (65536 * c.args.place.1) (c.args.end - c.members.from) c.members.from c.args.block.now c.members.members none)
    ∙ c.members.invariant.1
