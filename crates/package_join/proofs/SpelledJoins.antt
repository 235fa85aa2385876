-- A magic, sections and their digest: what is spelled is read, and what is read was spelled so.
use Rattle.std.proofs.Common.{◌≡◌, ℕ, ◌+◌, ◌-◌, ◌≤◌, List, ◌++◌, length, take, drop, sym, ap, ◌∙◌, arith}
use Rattle.std.proofs.lemmas.List.{take_at, drop_at, take-append-drop, take-take, length-append}
use Rattle.sha2.specs.Sha256.{sha256}
use Rattle.sha2.proofs.Facts256.{length-sha256}
use Rattle.package_layout.specs.Valid.{HasDigest, before_digest, middle}

module _ (magic sections : List ℕ) (eight : 8 ≡ length magic) where
  abbrev pub body : List ℕ
  body = magic ++ sections

  abbrev pub spelled : List ℕ
  spelled = body ++ sha256 body

  pub long_body : 8 ≤ length body
  long_body = omega (arith, eight, length-append magic sections)

  pub spelled_length : length spelled ≡ length body + 32
  spelled_length = length-append body (sha256 body) ∙ ap (λ (n : ℕ). length body + n) (length-sha256 body)

  body_before : before_digest spelled ≡ body
  body_before = let e : length body ≡ length spelled - 32 = omega (arith, spelled_length) in take_at body (sha256 body) (length spelled - 32) e

  digest_after : drop (length spelled - 32) spelled ≡ sha256 body
  digest_after = let e : length body ≡ length spelled - 32 = omega (arith, spelled_length) in drop_at body (sha256 body) (length spelled - 32) e

  pub spelled_digest : HasDigest spelled
  spelled_digest = record { long = omega (arith, spelled_length, long_body); same = digest_after ∙ ap sha256 (sym body_before) }

  pub spelled_magic : take 8 spelled ≡ magic
  spelled_magic =
      let one : take 8 body ≡ magic = take_at magic sections 8 (sym eight) in
      let front : take 8 (before_digest spelled) ≡ magic = ap (take 8) body_before ∙ one in
      let shorter : 8 ≤ length spelled - 32 = omega (arith, spelled_length, long_body) in
      sym (take-take 8 (length spelled - 32) spelled shorter) ∙ front

  pub spelled_middle : middle spelled ≡ sections
  spelled_middle = ap (drop 8) body_before ∙ drop_at magic sections 8 (sym eight)

pub parts_of : (magic bytes : List ℕ) → take 8 bytes ≡ magic → HasDigest bytes → bytes ≡ (magic ++ middle bytes) ++ sha256 (magic ++ middle bytes)
parts_of magic bytes m d =
    let shorter : 8 ≤ length bytes - 32 = omega (arith, d.long) in
    let front : take 8 (before_digest bytes) ≡ magic = take-take 8 (length bytes - 32) bytes shorter ∙ m in
    let whole : before_digest bytes ≡ magic ++ middle bytes = sym (take-append-drop 8 (before_digest bytes)) ∙ ap (λ (l : List ℕ). l ++ middle bytes) front in
    sym (take-append-drop (length bytes - 32) bytes) ∙ ap (λ (l : List ℕ). before_digest bytes ++ l) d.same ∙ ap (λ (l : List ℕ). l ++ sha256 l) whole
