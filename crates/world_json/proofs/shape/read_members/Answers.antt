use Rattle.std.proofs.Common.{ℕ, List, ◌++◌, String, Global, Option, option_map, string_bytes, sym, ap, ◌∙◌, subst}
use Rattle.std.specs.List.{AllByRecursion}
use Rattle.serde_json.specs.View.{view, members_view}
use Rattle.serde_json.specs.declared.value.Value.{Value}
use Rattle.world_json.specs.Shape.{each_member}
use Rattle.world_json.proofs.Each.{IsSoFar, one_more, all_push}
use Rattle.world_json.proofs.shape.read_members.Goals as goal

pub loop-name-preserved : goal.loop-name-preserved
loop-name-preserved g c =
    let rest : Option (List g.row.X.Denot) = each_member g.X.FromMember.of_member (members_view c.next.new.self) in
    let so_far = c.loop-name.invariant.read ∙ ap (λ (es : List (String Global × Value)). option_map (λ xs. c.loop-name.found ++ xs) (each_member g.X.FromMember.of_member (members_view es))) c.in-Some.ensures.steps in
    let is = ap (λ (name : List ℕ). g.X.FromMember.of_member name (view c.in-Some.value)) (sym c.name_of_text.ensures.name) ∙ c.in-Ok.ensures.ok in
    let all : Option (List g.row.X.Denot) = each_member g.X.FromMember.of_member (members_view c.args.members.entries) in
    record {
      read = subst (λ (found : List g.row.X.Denot). IsSoFar all found rest) (sym c.in_ok-push-in-Ok.ensures.ok)
          (one_more all c.loop-name.found (g.X.FromMember.of_member (string_bytes c.in-Some.name) (view c.in-Some.value)) rest c.in-Ok.member so_far is);
      typed = subst (AllByRecursion g.X.FromMember.typed) (sym c.in_ok-push-in-Ok.ensures.ok)
          (all_push g.X.FromMember.typed c.loop-name.found c.in-Ok.member c.loop-name.invariant.typed c.in-Ok.ensures.typed);
    }
