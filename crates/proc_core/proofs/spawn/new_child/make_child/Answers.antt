use Rattle.std.proofs.Common.{refl}
use Rattle.proc_core.proofs.spawn.new_child.make_child.Goals as goal

pub returns : goal.returns
returns c = λ r code at there. record {
  child = c.in_ok-child.child;
  held = λ script. c.in_ok-child.ensures r code script at there;
  items = c.in_ok-add_child.ensures r at;
  codes = refl;
  ready = c.in_ok-add_ready.ensures;
  parents = c.in_ok-push.ensures.ok;
  others = record { tree = refl; seed = refl; last = refl; generator = refl; asked = refl };
}
