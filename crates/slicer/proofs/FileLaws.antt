-- Names of files, event by event.
use Rattle.std.proofs.Common.{◌≡◌, Bool, true, false, not, refl, ◌∙◌}
use Rattle.std.specs.Prelude.{◌||◌, ◌&&◌}

-- a name that an event names now, and that may be changed now, before the others
pub named_more : (here now changed later found gone rest : Bool) → now ≡ (here || (not changed && found)) → later ≡ (changed || gone)
    → (now || (not later && rest)) ≡ (here || (not changed && (found || (not gone && rest))))
named_more here now changed later found gone rest is more = (λ j. is j || (not (more j) && rest)) ∙ by here changed found gone
  where
    by : (h c f g : Bool) → ((h || (not c && f)) || (not (c || g) && rest)) ≡ (h || (not c && (f || (not g && rest))))
    by true c f g = refl
    by false true f g = refl
    by false false true g = refl
    by false false false g = refl
