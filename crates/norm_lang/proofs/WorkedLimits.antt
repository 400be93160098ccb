-- Limits of texts, one less and one more, by computing.
use Rattle.std.proofs.Common.{◌≡◌, ℕ, true, false, refl}
use Rattle.std.specs.Prelude.{nat_le}
use Rattle.norm_lang.specs.Bounds.{most_kinds, most_fields, most_nodes, most_roots, most_picked, most_ops, most_args, most_instrs, most_news, most_entries, last_target, most_buckets}

pub kinds_below : nat_le 3 most_kinds ≡ true
kinds_below = refl

pub kinds_last : nat_le 4 most_kinds ≡ true
kinds_last = refl

pub kinds_past : nat_le 5 most_kinds ≡ false
kinds_past = refl

pub fields_below : nat_le 3 most_fields ≡ true
fields_below = refl

pub fields_last : nat_le 4 most_fields ≡ true
fields_last = refl

pub fields_past : nat_le 5 most_fields ≡ false
fields_past = refl

pub nodes_below : nat_le 255 most_nodes ≡ true
nodes_below = refl

pub nodes_last : nat_le 256 most_nodes ≡ true
nodes_last = refl

pub nodes_past : nat_le 257 most_nodes ≡ false
nodes_past = refl

pub roots_below : nat_le 255 most_roots ≡ true
roots_below = refl

pub roots_last : nat_le 256 most_roots ≡ true
roots_last = refl

pub roots_past : nat_le 257 most_roots ≡ false
roots_past = refl

pub picked_below : nat_le 255 most_picked ≡ true
picked_below = refl

pub picked_last : nat_le 256 most_picked ≡ true
picked_last = refl

pub picked_past : nat_le 257 most_picked ≡ false
picked_past = refl

pub ops_below : nat_le 15 most_ops ≡ true
ops_below = refl

pub ops_last : nat_le 16 most_ops ≡ true
ops_last = refl

pub ops_past : nat_le 17 most_ops ≡ false
ops_past = refl

pub args_below : nat_le 3 most_args ≡ true
args_below = refl

pub args_last : nat_le 4 most_args ≡ true
args_last = refl

pub args_past : nat_le 5 most_args ≡ false
args_past = refl

pub instrs_below : nat_le 255 most_instrs ≡ true
instrs_below = refl

pub instrs_last : nat_le 256 most_instrs ≡ true
instrs_last = refl

pub instrs_past : nat_le 257 most_instrs ≡ false
instrs_past = refl

pub news_below : nat_le 3 most_news ≡ true
news_below = refl

pub news_last : nat_le 4 most_news ≡ true
news_last = refl

pub news_past : nat_le 5 most_news ≡ false
news_past = refl

pub entries_below : nat_le 3 most_entries ≡ true
entries_below = refl

pub entries_last : nat_le 4 most_entries ≡ true
entries_last = refl

pub entries_past : nat_le 5 most_entries ≡ false
entries_past = refl

pub buckets_below : nat_le 63 most_buckets ≡ true
buckets_below = refl

pub buckets_last : nat_le 64 most_buckets ≡ true
buckets_last = refl

pub buckets_past : nat_le 65 most_buckets ≡ false
buckets_past = refl

pub target_below : nat_le 65534 last_target ≡ true
target_below = refl

pub target_last : nat_le 65535 last_target ≡ true
target_last = refl

pub target_past : nat_le 65536 last_target ≡ false
target_past = refl
