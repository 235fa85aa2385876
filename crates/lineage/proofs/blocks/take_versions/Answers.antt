use Rattle.std.proofs.Common.{◌≡◌, ◌∙◌, sym, ap, subst, ◌<◌, ◌+◌, ℕ, List, get_or}
use Rattle.lineage.specs.inner.Blocks.{version_of}
use Rattle.lineage.proofs.BlockLaws.{stands_at, taken_more}
use Rattle.lineage.proofs.blocks.take_versions.Goals as goal

pub take_version-requires-clause-room : goal.take_version-requires-clause-room
take_version-requires-clause-room c =
    let others = c.args.others.now in
    let place = c.loop-place.place in
    let is : get_or c.items-numbers.result.now place 0 ≡ version_of others (others.first + place) =
    ap (λ (ns : List ℕ). get_or ns place 0) c.items-numbers.ensures ∙ sym (stands_at others place) in
    λ above. c.loop-place.invariant.1 (others.first + place) (c.requires.room (others.first + place) (subst (λ (k : ℕ). 0 < k) is above))

pub loop-place-preserved : goal.loop-place-preserved
loop-place-preserved c =
    let others = c.args.others.now in
    let place = c.loop-place.place in
    let is : get_or c.items-numbers.result.now place 0 ≡ version_of others (others.first + place) =
    ap (λ (ns : List ℕ). get_or ns place 0) c.items-numbers.ensures ∙ sym (stands_at others place) in (
      taken_more c.args.words.now c.args.versions.now others place (get_or c.items-numbers.result.now place 0) (version_of c.loop-place.versions) (version_of c.take_version.new.versions)
          c.loop-place.invariant.0 is c.take_version.ensures.same,
      λ m has. c.take_version.ensures.stays m (c.loop-place.invariant.1 m has),
    )
