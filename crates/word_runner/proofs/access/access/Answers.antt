use Rattle.std.proofs.Common.{ℕ, ◌<◌, subst, sym}
use Rattle.word_runner.proofs.table_rule.Accesses.{load_allowed, store_put, exchange_allowed, raise_allowed}
use Rattle.word_runner.proofs.access.access.Goals as goal

pub load-requires : goal.load-requires
load-requires g c =
    let free = load_allowed c.args.table.now.shared.key c.args.table.now.shared.table_id.slots c.args.seat.now.id c.args.seat.now.me g.H.Hand.entry c.in-Load.at c.requires.good (rw c.in-Load.is at c.requires.step) in
    (c.requires.table, subst (λ (n : ℕ). c.in-Load.at < n) (sym c.requires.count) free.0, free.1)

pub store-requires : goal.store-requires
store-requires g c =
    let free = store_put c.args.table.now.shared.key c.args.table.now.shared.table_id.slots c.args.seat.now.id c.args.seat.now.me g.H.Hand.entry c.in-Store.at c.in-Store.word c.requires.good (rw c.in-Store.is at c.requires.step) in
    (c.requires.table, subst (λ (n : ℕ). c.in-Store.at < n) (sym c.requires.count) free.0, free.1)

pub compare_exchange-requires : goal.compare_exchange-requires
compare_exchange-requires g c =
    let free = exchange_allowed c.args.table.now.shared.key c.args.table.now.shared.table_id.slots c.args.seat.now.id c.args.seat.now.me g.H.Hand.entry c.in-CompareExchange.at c.in-CompareExchange.expected c.in-CompareExchange.replacement c.requires.good (rw c.in-CompareExchange.is at c.requires.step) in
    (c.requires.table, subst (λ (n : ℕ). c.in-CompareExchange.at < n) (sym c.requires.count) free.0, free.1)

pub fetch_max-requires : goal.fetch_max-requires
fetch_max-requires g c =
    let free = raise_allowed c.args.table.now.shared.key c.args.table.now.shared.table_id.slots c.args.seat.now.id c.args.seat.now.me g.H.Hand.entry c.in-FetchMax.at c.in-FetchMax.word c.requires.good (rw c.in-FetchMax.is at c.requires.step) in
    (c.requires.table, subst (λ (n : ℕ). c.in-FetchMax.at < n) (sym c.requires.count) free.0, free.1)
