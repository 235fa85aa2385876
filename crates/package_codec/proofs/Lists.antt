-- Lists that are read or written item by item, as a loop does.
use Rattle.std.proofs.Common.{◌≡◌, ℕ, suc, ◌-◌, ◌+◌, ◌≤◌, ◌<◌, List, [], ◌∷◌, ◌++◌, Some, None, Err, refl, sym, ap, ◌∙◌, append_assoc, arith}
use Rattle.std.proofs.lemmas.List.{append-nil}
use Rattle.package_codec.specs.declared.decode_stop.DecodeStop.{DecodeStop}
use Rattle.package_codec.specs.declared.decode_stop.DecodeStop.TheVariants.{NoMemory, Malformed}
use Rattle.package_codec.specs.Fields.{DecodeResult, ◌>>=◌, Decodes, items_at}

-- what was read before, and what is still read
abbrev pub with_front : {X : Type 0} → List X → DecodeResult (List X) → DecodeResult (List X)
with_front front read = read >>= λ x. Some (front ++ x.0, x.1)

pub with_none : {X : Type 0} (read : DecodeResult (List X)) → with_front [] read ≡ read
with_none None = refl
with_none (Some x) = refl

pub begins : {X : Type 0} (item_at : List ℕ → DecodeResult X) (count : ℕ) (bytes : List ℕ) → with_front [] (items_at item_at (count - 0) bytes) ≡ items_at item_at count bytes
begins item_at count bytes = let k : count - 0 ≡ count = omega arith in rw k (with_none (items_at item_at count bytes))

regroup : {X : Type 0} (front : List X) (x : X) (read : DecodeResult (List X)) → with_front front (read >>= λ y. Some (x ∷ y.0, y.1)) ≡ with_front (front ++ x ∷ []) read
regroup front x (Some y) = ap (λ xs. Some (xs, y.1)) (simp append_assoc)
regroup front x None = refl

pub with_front-next : {X : Type 0} (item_at : List ℕ → DecodeResult X) (front : List X) (count i : ℕ) (bytes : List ℕ) (x : X) (after : List ℕ) (total : DecodeResult (List X)) → i < count → item_at bytes ≡ Some (x, after)
    → with_front front (items_at item_at (count - i) bytes) ≡ total → with_front (front ++ x ∷ []) (items_at item_at (count - (i + 1)) after) ≡ total
with_front-next item_at front count i bytes x after total lt h so_far =
    let k : count - i ≡ suc (count - (i + 1)) = omega arith in
    let one : with_front front (items_at item_at (count - i) bytes) ≡ with_front (front ++ x ∷ []) (items_at item_at (count - (i + 1)) after) = rw (k, h) (regroup front x (items_at item_at (count - (i + 1)) after)) in
    sym one ∙ so_far

at_end : {X : Type 0} (item_at : List ℕ → DecodeResult X) (front : List X) (count i : ℕ) (bytes : List ℕ) (total : DecodeResult (List X)) → i < count → item_at bytes ≡ None
    → with_front front (items_at item_at (count - i) bytes) ≡ total → total ≡ None
at_end item_at front count i bytes total lt h so_far =
    let k : count - i ≡ suc (count - (i + 1)) = omega arith in
    let one : with_front front (items_at item_at (count - i) bytes) ≡ None = rw (k, h) refl in
    sym so_far ∙ one

pub ends : {X : Type 0} (item_at : List ℕ → DecodeResult X) (front : List X) (count i : ℕ) (bytes left end : List ℕ) (total : DecodeResult (List X)) (e : DecodeStop) → i < count → Decodes {X = X} (Err e) left (item_at bytes)
    → with_front front (items_at item_at (count - i) bytes) ≡ total → Decodes {X = List X} (Err e) end total
ends item_at front count i bytes left end total NoMemory lt h so_far = tt
ends item_at front count i bytes left end total Malformed lt h so_far = at_end item_at front count i bytes total lt h so_far

pub is_done : {X : Type 0} (item_at : List ℕ → DecodeResult X) (front : List X) (count i : ℕ) (bytes : List ℕ) (total : DecodeResult (List X)) → count ≤ i → with_front front (items_at item_at (count - i) bytes) ≡ total → total ≡ Some (front, bytes)
is_done item_at front count i bytes total le so_far =
    let k : count - i ≡ 0 = omega arith in
    let one : with_front front (items_at item_at (count - i) bytes) ≡ Some (front, bytes) = rw k (ap (λ xs. Some (xs, bytes)) (append-nil front)) in
    sym so_far ∙ one
