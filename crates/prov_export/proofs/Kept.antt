-- When the graph taken out of bytes is kept, and the facts that reading shows.
use Rattle.std.proofs.Common.{◌≡◌, ◌∙◌, sym, ap, ℕ, List, Bool, true, false, cond}
use Rattle.std.specs.Prelude.{Option, Some, None, ◌&&◌, bytes_eq, Result, Ok, Err, IfOk}
use Rattle.ldv_value.specs.Gives.{Gives}
use Rattle.trace_graph.specs.Graph.{Parts}
use Rattle.trace_graph.specs.WellFormed.{IsWellFormed, is_well_formed}
use Rattle.prov_export.specs.Document.{prov_text}
use Rattle.prov_export.specs.Laws.{IsTypedGraph}
use Rattle.prov_export.specs.Reading.{kept_as, prov_reading}
use Rattle.prov_export.specs.Stopping.{Stops}
use Rattle.prov_export.specs.declared.error.ProvStop.{ProvStop}
use Rattle.prov_export.specs.declared.error.ProvStop.TheVariants.{NotProv, NoMemory}
use Rattle.prov_export.proofs.ReadBack.{graph_read, reading_law}

module _ (bytes : List ℕ) (graph : Parts) where
  abbrev kept_if : Bool → Bool → Option Parts
  kept_if formed same = cond (formed && same) (Some graph) None

  -- what is kept of a well-formed graph goes by its text alone
  pub by_text : (same : Bool) → IsWellFormed graph → same ≡ bytes_eq (prov_text graph) bytes → kept_as bytes graph ≡ kept_if true same
  by_text same formed is =
      ap (λ (b : Bool). kept_if b (bytes_eq (prov_text graph) bytes)) formed ∙ ap (kept_if true) (sym is)

  pub kept_same : (same : Bool) → IsWellFormed graph → same ≡ bytes_eq (prov_text graph) bytes → same ≡ true → kept_as bytes graph ≡ Some graph
  kept_same same formed is hit = by_text same formed is ∙ ap (kept_if true) hit

  pub kept_other : (same : Bool) → IsWellFormed graph → same ≡ bytes_eq (prov_text graph) bytes → same ≡ false → kept_as bytes graph ≡ None
  kept_other same formed is miss = by_text same formed is ∙ ap (kept_if true) miss

  pub kept_never : (formed : Bool) → formed ≡ is_well_formed graph → formed ≡ false → kept_as bytes graph ≡ None
  kept_never formed is miss = ap (λ (b : Bool). kept_if b (bytes_eq (prov_text graph) bytes)) (sym is ∙ miss)

-- ---- of a whole reading

pub ok_of : (bytes : List ℕ) (r : Result Parts ProvStop) → Gives Stops r (prov_reading bytes)
    → IfOk r (λ graph. IsWellFormed graph × (prov_text graph ≡ bytes))
ok_of bytes (Ok g) is = reading_law bytes g is
ok_of bytes (Err e) is = tt

pub never_of : (bytes : List ℕ) (r : Result Parts ProvStop) → Gives Stops r (prov_reading bytes) → r ≡ Err NotProv
    → (graph : Parts) → IsTypedGraph graph → IsWellFormed graph → prov_text graph ≡ bytes → ⊥
never_of bytes (Ok g) is stopped graph typed formed same = let never : Ok g ≡ Err NotProv = stopped in cc
never_of bytes (Err NotProv) is stopped graph typed formed same =
    let never : None ≡ Some graph = sym is ∙ ap prov_reading (sym same) ∙ graph_read graph typed formed in cc
never_of bytes (Err NoMemory) is stopped graph typed formed same =
    let never : Err NoMemory ≡ Err NotProv = stopped in cc
