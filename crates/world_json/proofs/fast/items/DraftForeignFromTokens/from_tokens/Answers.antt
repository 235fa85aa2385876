use Rattle.world_json.proofs.TakenParts.{foreign_taken}
use Rattle.world_json.proofs.fast.items.DraftForeignFromTokens.from_tokens.Goals as goal

pub returns-clause-taken : goal.returns-clause-taken
returns-clause-taken c =
    foreign_taken c.args.reader.now c.open_array.new.reader c.take_array.new.reader c.from_tokens.new.reader c.close_array.new.reader c.in_ok-columns.columns c.in_ok-parent.parent
    c.in_ok-open_array.ensures c.in_ok-columns.ensures.taken c.in_ok-columns.ensures.shorter c.in_ok-parent.ensures.taken c.in_ok-parent.ensures.shorter c.in_ok-close_array.ensures
