-- What contracts see of a set's tree.
use Rattle.ready_set.specs.declared.set.ReadySet.TheInside.{Inside}
use Rattle.ready_set.specs.Ready.{ReadyView}
use Rattle.ready_set.specs.inner.Tree.{flags_of, IsKept}

abbrev pub view_of : Inside → ReadyView
view_of a = record { flags = flags_of a.counts.items a.room a.made; room = a.room }

abbrev pub IsWhole : Inside → Type 0
IsWhole a = IsKept a.counts.items a.room a.height a.made
