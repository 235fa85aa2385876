-- The text of a graph's document is read as that graph, and nothing else is.
use Rattle.std.proofs.Common.{◌≡◌, ℕ, List, Bool, true, false, cond, refl, sym, ap, ◌∙◌}
use Rattle.std.specs.Prelude.{Option, Some, None, option_and_then, bytes_eq}
use Rattle.std.proofs.lemmas.Slice.Eq.{bytes_eq-Decides}
use Rattle.std.proofs.lemmas.Str.{is_utf8-from_IsUtf8}
use Rattle.ldv_value.proofs.Booleans.{and-first, and-second, and-from}
use Rattle.serde_json.specs.Data.{Data}
use Rattle.serde_json.specs.Read.{read}
use Rattle.trace_graph.specs.Graph.{Parts}
use Rattle.trace_graph.specs.WellFormed.{is_well_formed, IsWellFormed}
use Rattle.prov_export.specs.Document.{document, prov_text}
use Rattle.prov_export.specs.Laws.{IsTypedGraph, RoundTripLaw, ReadingLaw, UniqueLaw}
use Rattle.json_bytes.specs.Reading.{json_of}
use Rattle.prov_export.specs.Reading.{parts_in, written_as, kept_as, prov_reading}
use Rattle.prov_export.proofs.Documents.{taken_out}
use Rattle.prov_export.proofs.PlainDocuments.{document_plain, document_shallow}
use Rattle.prov_export.proofs.Texts.{text_law}
use Rattle.prov_export.proofs.Written.{written}

module _ (graph : Parts) (typed : IsTypedGraph graph) (formed : IsWellFormed graph) where
  -- the document is read of the text
  document_read : json_of (prov_text graph) ≡ Some (document graph)
  document_read =
      let w = written graph typed formed in
      let text = text_law (document graph) (document_plain graph w) (document_shallow graph w) in
      ap (λ (b : Bool). cond b (read (prov_text graph)) None) (is_utf8-from_IsUtf8 (prov_text graph) text.1) ∙ text.0

  graph_written : written_as (prov_text graph) graph ≡ true
  graph_written =
      and-from (is_well_formed graph) (bytes_eq (prov_text graph) (prov_text graph)) formed ((bytes_eq-Decides (prov_text graph) (prov_text graph)).1 refl)

  pub graph_read : prov_reading (prov_text graph) ≡ Some graph
  graph_read =
      let w = written graph typed formed in
      ap (λ (o : Option Data). option_and_then (kept_as (prov_text graph)) (option_and_then parts_in o)) document_read
      ∙ ap (λ (o : Option Parts). option_and_then (kept_as (prov_text graph)) o) (taken_out graph w)
      ∙ ap (λ (b : Bool). cond b (Some graph) None) graph_written

pub round_trip_law : RoundTripLaw
round_trip_law graph typed formed = graph_read graph typed formed

-- what is kept is written as the bytes
kept_is : (bytes : List ℕ) (g graph : Parts) → kept_as bytes g ≡ Some graph → IsWellFormed graph × (prov_text graph ≡ bytes)
kept_is bytes g graph is = by (written_as bytes g) refl is
  where
    by : (b : Bool) → written_as bytes g ≡ b → cond b (Some g) None ≡ Some graph → IsWellFormed graph × (prov_text graph ≡ bytes)
    by true hit some =
        let same : g ≡ graph = cc in
        let kept : written_as bytes graph ≡ true = ap (written_as bytes) (sym same) ∙ hit in (
          and-first (is_well_formed graph) (bytes_eq (prov_text graph) bytes) kept,
          (bytes_eq-Decides (prov_text graph) bytes).0 (and-second (is_well_formed graph) (bytes_eq (prov_text graph) bytes) kept),
        )
    by false miss none = let never : None ≡ Some graph = none in cc

pub reading_law : ReadingLaw
reading_law bytes graph is = by (option_and_then parts_in (json_of bytes)) is
  where
    by : (o : Option Parts) → option_and_then (kept_as bytes) o ≡ Some graph → IsWellFormed graph × (prov_text graph ≡ bytes)
    by None none = let never : None ≡ Some graph = none in cc
    by (Some g) some = kept_is bytes g graph some

pub unique_law : UniqueLaw
unique_law g h tg th wg wh same =
    let some : Some g ≡ Some h = sym (graph_read g tg wg) ∙ ap prov_reading same ∙ graph_read h th wh in cc
