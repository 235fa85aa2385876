use Rattle.table_store.proofs.rows.rewrites.rewrite_of.Goals as goal

pub unreachable-requires : goal.unreachable-requires
unreachable-requires c =
    let has = c.requires in
    c.find.ensures.absent c.in-None.is has.0 has.1 has.2
