use Rattle.std.proofs.Common.{ℕ, eqb, eqb-true, not, sym, ◌∙◌, arith, get_or, w64}
use lib.Lanes.{chunk}
use Rattle.std.proofs.lemmas.Bool.{not-false}
use Rattle.std.proofs.lemmas.Simd.{length-chunk, bitmask_splat, none_from_empty_mask}
use Rattle.lanes.proofs.members.is_empty_block.Goals as goal

pub returns : goal.returns
returns c empty k on below =
    let words = c.args.a.now in
    let mask = bitmask_splat w64 (λ (x y : ℕ). not (eqb x y)) (chunk c.args.at 8 words) 8 0 (length-chunk c.args.at 8 words c.requires) (omega arith) in
    let none = none_from_empty_mask (λ (x : ℕ). not (eqb x 0)) words c.args.at 8 0 c.requires (sym mask ∙ eqb-true _ _ empty) k on below in
    eqb-true (get_or words k 0) 0 (not-false (eqb (get_or words k 0) 0) none)
