-- The two documents of a workload: calls on a hash set of eight buckets, with keys from a sequence of numbers.
use Rattle.std.specs.Prelude.{ℕ, ◌+◌, ◌-◌, ◌*◌, ◌/◌, ◌%◌, ◌==◌, List, [], ◌∷◌, map, min, codes, if◌then◌else◌}
use Rattle.std.specs.Fn.{iterate}
use Rattle.std.specs.List.{range_with_len}
use Rattle.norm_lang.specs.Shipped.{set_text}
use Rattle.documents.specs.declared.document.ScriptCall.{ScriptCall}
use Rattle.documents.specs.declared.document.Document.{Document}
use Rattle.documents.specs.DocumentRead.{bare_document}
use Rattle.oa_words.specs.declared.limits.TheConstants.{MOST_SLOTS}
use Rattle.script_driver.specs.declared.parts.TheConstants.{BUCKETS, FIRST_PART_CALLS, SECOND_PART_SLOTS}
use Rattle.script_driver.specs.declared.rounds.TheConstants.{MULTIPLIER, INCREMENT, MODULUS, KEYS, KEYS_APART}

-- ---- keys

-- a caller's numbers are a linear congruential sequence: each gives the next
abbrev pub next_seed : ℕ → ℕ
next_seed seed = (MULTIPLIER * seed + INCREMENT) % MODULUS

-- number j of a caller's sequence, which begins with one more than the caller's own
abbrev pub seed_at : ℕ → ℕ → ℕ
seed_at caller j = iterate next_seed j (caller + 1)

-- the key that a number of the sequence gives: a caller's keys are further from those of the next caller than they are many, so no two
-- callers share one
abbrev pub key_from : ℕ → ℕ → ℕ
key_from caller seed = KEYS_APART * caller + seed % KEYS

abbrev pub key_at : ℕ → ℕ → ℕ
key_at caller j = key_from caller (seed_at caller j)

-- ---- calls

-- a call with a key; it stands at no line
abbrev pub key_call : List ℕ → ℕ → ScriptCall
key_call name key = record { line = 0; name = name; args = key ∷ [] }

-- a round has four calls: a key is put in and looked for, and the key of the round before is taken out and looked for
abbrev pub round_call : ℕ → ℕ → ℕ → ScriptCall
round_call key before place =
    if place == 0 then key_call (codes "insert") key
    else (if place == 1 then key_call (codes "contains") key
    else (if place == 2 then key_call (codes "remove") before
    else key_call (codes "contains") before))

-- call i of a caller: it is in round i / 4, and in the first round the key before is that of the round itself
abbrev pub call_at : ℕ → ℕ → ScriptCall
call_at caller i = round_call (key_at caller (i / 4)) (key_at caller (i / 4 - 1)) (i % 4)

-- a caller's first calls, so many
abbrev pub script_of : ℕ → ℕ → List ScriptCall
script_of count caller = map (call_at caller) (range_with_len 0 count)

-- those of the first callers, so many
abbrev pub scripts_of : ℕ → ℕ → List (List ScriptCall)
scripts_of count callers = map (script_of count) (range_with_len 0 callers)

-- ---- documents

-- scripts on the set, over so many slots; phases and fuel are those of a document that doesn't set them, and there is no schedule
abbrev pub set_document : ℕ → List (List ScriptCall) → Document
set_document slots scripts = record (bare_document (set_text BUCKETS)) { slots = slots ∷ []; scripts = scripts }

-- part 1: so many callers, each with the first of its calls, of which one in four puts a key in, over as many slots as a row may have
abbrev pub first_part : ℕ → ℕ → Document
first_part count callers = set_document MOST_SLOTS (scripts_of (min count FIRST_PART_CALLS) callers)

-- part 2: caller 0 alone, over a row in which slots must be used again: eight are the buckets' own, and of the other eight no more than
-- two hold a key of the set
abbrev pub second_part : ℕ → Document
second_part count = set_document SECOND_PART_SLOTS (scripts_of count 1)

-- the document of a part, with so many calls for so many callers
abbrev pub workload_document : ℕ → ℕ → ℕ → Document
workload_document part count callers = if part == 1 then first_part count callers else second_part count
