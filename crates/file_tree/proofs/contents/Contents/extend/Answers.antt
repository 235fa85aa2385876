use Rattle.std.proofs.Common.{◌≡◌, ◌∙◌, sym, ap, subst, Some, None, Option, IsTrue, is_some, rules, unwrap_or, List, [], ◌++◌, ℕ, false}
use Rattle.std.proofs.lemmas.Result.{on_ok_weaker, on_err_weaker}
use Rattle.std.proofs.lemmas.Map.Text.{btree_map_updates_text}
use Rattle.ldv_value.specs.FileState.{content_in, put_file}
use Rattle.file_tree.specs.inner.Views.{files_in, map_by_bytes}
use Rattle.file_tree.proofs.Seen.{seen_get, seen_put, put_back}
use Rattle.file_tree.proofs.contents.Contents.extend.Goals as goal

pub returns-clause-ok : goal.returns-clause-ok
returns-clause-ok c =
    let old = c.self.inside.files in
    let made = c.extend.new.self in
    let new = c.get_mut.follows.lender made in
    let path = c.args.path.now in
    let was : Some c.in-Some.content.now ≡ content_in c.args.self.now path = c.in-Some.ensures.value ∙ sym (seen_get old path) ∙ ap (λ files. content_in files path) c.self.view_is in
    let put : files_in (map_by_bytes new.entries) ≡ put_file path made c.args.self.now =
    seen_put old new path made (btree_map_updates_text path old new (Some made) ((c.get_mut.follows.holds made).3 (search rules))) ∙ ap (put_file path made) c.self.view_is in
    on_ok_weaker c.extend.result (λ more. put ∙ ap (λ bytes. put_file path bytes c.args.self.now) (more ∙ ap (λ o. unwrap_or o [] ++ c.args.more.now) was)) c.extend.ensures.ok

pub returns-clause-err : goal.returns-clause-err
returns-clause-err c =
    let old = c.self.inside.files in
    let made = c.extend.new.self in
    let new = c.get_mut.follows.lender made in
    let path = c.args.path.now in
    let was : content_in (files_in (map_by_bytes old.entries)) path ≡ Some c.in-Some.content.now = seen_get old path ∙ sym c.in-Some.ensures.value in
    let put : files_in (map_by_bytes new.entries) ≡ put_file path made (files_in (map_by_bytes old.entries)) =
    seen_put old new path made (btree_map_updates_text path old new (Some made) ((c.get_mut.follows.holds made).3 (search rules))) in
    on_err_weaker c.extend.result (λ same. put ∙ ap (λ bytes. put_file path bytes (files_in (map_by_bytes old.entries))) same ∙ put_back old path c.in-Some.content.now was ∙ c.self.view_is) c.extend.ensures.err

pub unreachable-requires : goal.unreachable-requires
unreachable-requires c =
    let was : None ≡ content_in c.args.self.now c.args.path.now = c.in-None.ensures.value ∙ sym (seen_get c.self.inside.files c.args.path.now) ∙ ap (λ files. content_in files c.args.path.now) c.self.view_is in
    let none : IsTrue false = subst (λ (o : Option (List ℕ)). IsTrue (is_some o)) (sym was) c.requires in
    cc
