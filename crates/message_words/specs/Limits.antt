-- What each limit says that a line may pass.
use Rattle.std.specs.Prelude.{ℕ, List, codes}
use Rattle.message_words.specs.declared.limits.Limit.{Limit}
use Rattle.message_words.specs.declared.limits.Limit.TheVariants.{Kinds, Fields, Nodes, Roots, Operations, Arguments, Buckets, Instructions, News, Targets, Picked, Entries, Scripts, Calls, Turns, Callers, Counts}

unfoldable pub limit_words : Limit → List ℕ
limit_words Kinds = codes "a text has at most 4 kinds"
limit_words Fields = codes "a kind has at most 4 fields"
limit_words Nodes = codes "a text has at most 256 initial nodes, of all kinds together"
limit_words Roots = codes "a text has at most 256 roots"
limit_words Operations = codes "a text has at most 16 operations"
limit_words Arguments = codes "an operation has at most 4 arguments"
limit_words Buckets = codes "a set has 1 to 64 buckets"
limit_words Instructions = codes "a method has at most 256 instructions"
limit_words News = codes "an operation has at most 4 'new', and a method at most 256 instructions"
limit_words Targets = codes "the number of an instruction to go to is at most 65535"
limit_words Picked = codes "a pick chooses among at most 256 roots"
limit_words Entries = codes "a commit has at most 4 exchanges"
limit_words Scripts = codes "a document has at most 256 scripts"
limit_words Calls = codes "a script has at most 100000 calls"
limit_words Turns = codes "a schedule has at most 100000 turns"
limit_words Callers = codes "the number of a caller is at most 4294967295"
limit_words Counts = codes "the count of a turn is at most 1000000"
