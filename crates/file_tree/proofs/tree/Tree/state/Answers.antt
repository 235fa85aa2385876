use Rattle.ldv_value.specs.FileState.{content_in}
use Rattle.file_tree.proofs.Seen.{content_within, shown_within}
use Rattle.file_tree.proofs.tree.Tree.state.Goals as goal

pub returns-clause-within : goal.returns-clause-within
returns-clause-within c =
    shown_within c.get.result (content_in c.self.inside.files c.args.path.now) c.get.ensures
    (content_within (record { files = c.self.inside.files; touched = c.self.inside.touched }) c.args.path.now c.self.invariant)
