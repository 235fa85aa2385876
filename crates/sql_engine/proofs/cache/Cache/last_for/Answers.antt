use Rattle.std.proofs.Common.{◌<◌, arith, length}
use Rattle.sql_engine.proofs.CacheLaws.{entry_at}
use Rattle.sql_engine.proofs.cache.Cache.last_for.Goals as goal

pub checked_for-requires : goal.checked_for-requires
checked_for-requires c =
    let cache = c.args.self.now in
    let within : cache.last < length cache.entries.items = omega (arith, cache.entries.ok.0, c.len.ensures, c.if-self-len.false) in
    (entry_at c.args.catalog.now cache.entries.items c.index-entry.result.now cache.last c.index-entry.ensures within c.requires.each).prepared
