-- Runs judged by hand before anything is proved of the judge. Each row is computed from the definitions.
--
-- They tell the judge apart from these wrong ones:
--
--   replies compared alone                                    other_call, too_much, unfinished
--   1 before 2                                                busy_other
--   the last event not made                                   accepted, too_much
--   a caller accepted whose last reply is still to come       unfinished
--   a reply that isn't claimed refused                        unclaimed, running
--   a call taken for another with the same first arguments    more_words, other_count
use Rattle.std.specs.Prelude.{◌≡◌, ℕ, true, List, [], ◌∷◌, Option, Some, None, codes, refl}
use Rattle.std.proofs.Common.{arith}
use Rattle.norm_lang.specs.declared.text.Reg.TheVariants.{Num, Ref}
use Rattle.norm_lang.specs.declared.text.FieldKind.TheVariants as holdings
use Rattle.norm_lang.specs.declared.text.Start.TheVariants as starts
use Rattle.norm_lang.specs.declared.text.Place.TheVariants as places
use Rattle.norm_lang.specs.declared.text.Instr.TheVariants.{Set, Add, Null, LoadRoot, LoadField, New, Put, IfEq, Commit, Return, ReturnNone, Again}
use Rattle.norm_lang.specs.declared.text.Op.{Op}
use Rattle.norm_lang.specs.declared.text.Text.{Text}
use Rattle.norm_lang.specs.LineWords.{item_kind}
use Rattle.source_machine.specs.declared.event.SourceEvent.{SourceEvent}
use Rattle.source_machine.specs.declared.event.SourceEvent.TheVariants.{Begin, Access, Restart, GiveUp}
use Rattle.norm_lang.specs.declared.reply.SourceReply.{SourceReply}
use Rattle.norm_lang.specs.declared.reply.SourceReply.TheVariants as replies
use Rattle.documents.specs.declared.document.ScriptCall.{ScriptCall}
use Rattle.event_judge.specs.declared.verdict.Verdict.{Verdict}
use Rattle.event_judge.specs.declared.verdict.Verdict.TheVariants.{Accepted, Rejected}
use Rattle.event_judge.specs.Judging.{verdict_on}
use Rattle.event_judge.specs.JudgingLaws.{IsTrueRun}
use Rattle.event_judge.proofs.Verdicts.{accepted_is_true}

-- add: the sum of a root and the argument, as the root's new value and the reply. Its accesses are the root's load and its exchange
add : Op
add = record {
  name = codes "add";
  args = 1;
  generator =
      LoadRoot (Num 1) 0
      ∷ Add (Num 2) (Num 1) (Num 0)
      ∷ Commit (record { place = places.Root 0; expected = Num 1; replacement = Num 2; retire = None } ∷ [])
      ∷ [];
  wrapup = Set (Num 3) 0 ∷ IfEq (Num 7) (Num 3) 3 ∷ Return (Num 2) ∷ Again ∷ [];
}

-- nop: an empty list and no reply
nop : Op
nop = record { name = codes "nop"; args = 0; generator = Commit [] ∷ []; wrapup = ReturnNone ∷ [] }

-- make: a node, and no reply
make : Op
make = record { name = codes "make"; args = 0; generator = New (Ref 0) 0 ∷ Commit [] ∷ []; wrapup = ReturnNone ∷ [] }

counter : Text
unfolding add nop make
counter = record {
  kinds = item_kind ∷ [];
  fields = record { owner = 0; name = codes "pad"; kind = holdings.Number } ∷ [];
  roots = record { name = codes "total"; kind = holdings.Number; start = starts.Value 0 } ∷ [];
  nodes = [];
  ops = add ∷ nop ∷ make ∷ [];
}

adds : ℕ → ScriptCall
adds n = record { line = 1; name = codes "add"; args = n ∷ [] }

nops : ScriptCall
nops = record { line = 1; name = codes "nop"; args = [] }

makes : ScriptCall
makes = record { line = 1; name = codes "make"; args = [] }

-- a call that names `add` and gives it nothing
bare : ScriptCall
bare = record { line = 1; name = codes "add"; args = [] }

begins : ℕ → ℕ → ℕ → SourceEvent
begins caller op argument = Begin caller op (argument ∷ 0 ∷ 0 ∷ 0 ∷ [])

-- what is found of events of one caller with a script, and of the replies claimed of it
alone : List ScriptCall → List SourceEvent → List SourceReply → Verdict
unfolding counter
alone script events claims = verdict_on counter (script ∷ []) events (claims ∷ [])

-- .. of two callers with a script each
two : List ScriptCall → List ScriptCall → List SourceEvent → List SourceReply → List SourceReply → Verdict
unfolding counter
two first second events claims others = verdict_on counter (first ∷ second ∷ []) events (claims ∷ others ∷ [])

-- ---- accepted

accepted : alone (adds 5 ∷ []) (begins 0 0 5 ∷ Access 0 0 ∷ Access 0 0 ∷ []) (replies.Number 5 ∷ []) ≡ Accepted
unfolding alone adds begins
accepted = refl

-- nothing happens, and nothing is claimed
idle : alone (adds 5 ∷ []) [] [] ≡ Accepted
unfolding alone adds
idle = refl

-- the last reply isn't claimed: the call has ended, or runs
unclaimed : alone (adds 5 ∷ []) (begins 0 0 5 ∷ Access 0 0 ∷ Access 0 0 ∷ []) [] ≡ Accepted
unfolding alone adds begins
unclaimed = refl

running : alone (adds 5 ∷ []) (begins 0 0 5 ∷ Restart 0 ∷ Access 0 0 ∷ []) [] ≡ Accepted
unfolding alone adds begins
running = refl

-- two callers: the second adds to what the first made
turns : two (adds 5 ∷ []) (nops ∷ adds 2 ∷ []) (begins 1 1 0 ∷ begins 0 0 5 ∷ Access 0 0 ∷ Access 1 0 ∷ Access 0 0 ∷ begins 1 0 2 ∷ Access 1 0 ∷ Access 1 0 ∷ [])
    (replies.Number 5 ∷ []) (replies.Nothing ∷ replies.Number 7 ∷ []) ≡ Accepted
unfolding two adds nops begins
turns = refl

-- a caller gives up at a `new`, and its claim says so
full : alone (makes ∷ []) (begins 0 2 0 ∷ GiveUp 0 None ∷ []) (replies.Full ∷ []) ≡ Accepted
unfolding alone makes begins
full = refl

phases : alone (makes ∷ []) (begins 0 2 0 ∷ GiveUp 0 (Some 4) ∷ []) (replies.Phases 4 ∷ []) ≡ Accepted
unfolding alone makes begins
phases = refl

-- ---- 1: an event isn't enabled

too_much : alone (adds 5 ∷ []) (begins 0 0 5 ∷ Access 0 0 ∷ Access 0 0 ∷ Access 0 0 ∷ []) (replies.Number 5 ∷ []) ≡ Rejected 1 3
unfolding alone adds begins
too_much = refl

nobody : alone (adds 5 ∷ []) (Access 1 0 ∷ []) [] ≡ Rejected 1 0
unfolding alone adds
nobody = refl

-- the next call of its script, while another runs
busy_next : alone (adds 5 ∷ adds 6 ∷ []) (begins 0 0 5 ∷ begins 0 0 6 ∷ []) [] ≡ Rejected 1 1
unfolding alone adds begins
busy_next = refl

-- the first event that shows 1 or 2 decides
first_decides : alone (adds 5 ∷ []) (Restart 0 ∷ begins 0 0 6 ∷ []) [] ≡ Rejected 1 0
unfolding alone adds begins
first_decides = refl

gives_up_at_a_load : alone (adds 5 ∷ []) (begins 0 0 5 ∷ GiveUp 0 None ∷ []) (replies.Full ∷ []) ≡ Rejected 1 1
unfolding alone adds begins
gives_up_at_a_load = refl

named_twice : alone (makes ∷ makes ∷ []) (begins 0 2 0 ∷ Access 0 1 ∷ Access 0 0 ∷ begins 0 2 0 ∷ Access 0 1 ∷ []) (replies.Nothing ∷ []) ≡ Rejected 1 4
unfolding alone makes begins
named_twice = refl

-- ---- 2: a begin isn't the next call of its caller's script

other_call : alone (adds 5 ∷ []) (begins 0 0 6 ∷ Access 0 0 ∷ Access 0 0 ∷ []) (replies.Number 5 ∷ []) ≡ Rejected 2 0
unfolding alone adds begins
other_call = refl

other_op : alone (nops ∷ []) (begins 0 2 0 ∷ []) [] ≡ Rejected 2 0
unfolding alone nops begins
other_op = refl

no_op : alone (nops ∷ []) (begins 0 3 0 ∷ []) [] ≡ Rejected 2 0
unfolding alone nops begins
no_op = refl

-- the caller runs another call: 2 before 1
busy_other : alone (adds 5 ∷ adds 6 ∷ []) (begins 0 0 5 ∷ begins 0 0 7 ∷ []) [] ≡ Rejected 2 1
unfolding alone adds begins
busy_other = refl

-- a call of the script is left out
left_out : alone (adds 5 ∷ adds 6 ∷ []) (begins 0 0 6 ∷ []) [] ≡ Rejected 2 0
unfolding alone adds begins
left_out = refl

-- the script has no further call
script_ended : alone (nops ∷ []) (begins 0 1 0 ∷ Access 0 0 ∷ begins 0 1 0 ∷ []) (replies.Nothing ∷ []) ≡ Rejected 2 2
unfolding alone nops begins
script_ended = refl

-- a caller without a script
no_script : alone (nops ∷ []) (begins 1 1 0 ∷ []) [] ≡ Rejected 2 0
unfolding alone nops begins
no_script = refl

-- the next call of another caller's script
other_script : two (adds 5 ∷ []) (nops ∷ []) (begins 1 0 5 ∷ []) [] [] ≡ Rejected 2 0
unfolding two adds nops begins
other_script = refl

more_words : alone (adds 5 ∷ []) (Begin 0 0 (5 ∷ 1 ∷ 0 ∷ 0 ∷ []) ∷ []) [] ≡ Rejected 2 0
unfolding alone adds
more_words = refl

other_count : alone (bare ∷ []) (begins 0 0 0 ∷ []) [] ≡ Rejected 2 0
unfolding alone bare begins
other_count = refl

-- ---- 3: the replies of a caller don't agree

other_reply : alone (adds 5 ∷ []) (begins 0 0 5 ∷ Access 0 0 ∷ Access 0 0 ∷ []) (replies.Number 6 ∷ []) ≡ Rejected 3 0
unfolding alone adds begins
other_reply = refl

-- the reply is claimed, and the run doesn't come to it
unfinished : alone (adds 5 ∷ []) (begins 0 0 5 ∷ Access 0 0 ∷ []) (replies.Number 5 ∷ []) ≡ Rejected 3 0
unfolding alone adds begins
unfinished = refl

-- two replies aren't claimed
two_unclaimed : alone (nops ∷ nops ∷ []) (begins 0 1 0 ∷ Access 0 0 ∷ begins 0 1 0 ∷ Access 0 0 ∷ []) [] ≡ Rejected 3 0
unfolding alone nops begins
two_unclaimed = refl

-- a reply is claimed of a call that wasn't begun
never_begun : alone (nops ∷ nops ∷ []) (begins 0 1 0 ∷ Access 0 0 ∷ []) (replies.Nothing ∷ replies.Nothing ∷ []) ≡ Rejected 3 0
unfolding alone nops begins
never_begun = refl

-- the first reply is another, and the last isn't claimed
other_before_last : alone (nops ∷ nops ∷ []) (begins 0 1 0 ∷ Access 0 0 ∷ begins 0 1 0 ∷ Access 0 0 ∷ []) (replies.Full ∷ []) ≡ Rejected 3 0
unfolding alone nops begins
other_before_last = refl

-- the first caller that doesn't agree is named
second_caller : two (nops ∷ []) (adds 5 ∷ []) (begins 0 1 0 ∷ Access 0 0 ∷ begins 1 0 5 ∷ Access 1 0 ∷ Access 1 0 ∷ []) (replies.Nothing ∷ []) (replies.Nothing ∷ []) ≡ Rejected 3 1
unfolding two adds nops begins
second_caller = refl

other_phase : alone (makes ∷ []) (begins 0 2 0 ∷ GiveUp 0 (Some 4) ∷ []) (replies.Phases 5 ∷ []) ≡ Rejected 3 0
unfolding alone makes begins
other_phase = refl

-- a flaw of an event comes before one of the replies
event_first : alone (nops ∷ []) (Access 0 0 ∷ []) (replies.Full ∷ []) ≡ Rejected 1 0
unfolding alone nops
event_first = refl

-- ---- nodes of two kinds

-- set: a new pair with the argument, if the root is null. get: the number of the root's pair
pairs : Text
pairs = record {
  kinds = item_kind ∷ codes "pair" ∷ [];
  fields =
      record { owner = 0; name = codes "pad"; kind = holdings.Reference 0 }
      ∷ record { owner = 1; name = codes "left"; kind = holdings.Number }
      ∷ [];
  roots = record { name = codes "top"; kind = holdings.Reference 1; start = starts.Node 0 } ∷ [];
  nodes = [];
  ops =
      record {
        name = codes "set";
        args = 1;
        generator =
            New (Ref 0) 1
            ∷ Put (Ref 0) 1 (Num 0)
            ∷ Null (Ref 1)
            ∷ Commit (record { place = places.Root 0; expected = Ref 1; replacement = Ref 0; retire = None } ∷ [])
            ∷ [];
        wrapup = ReturnNone ∷ [];
      }
      ∷ record { name = codes "get"; args = 0; generator = LoadRoot (Ref 0) 0 ∷ LoadField (Num 1) (Ref 0) 1 ∷ Commit [] ∷ []; wrapup = Return (Num 1) ∷ [] }
      ∷ [];
}

sets_and_gets : List ScriptCall
sets_and_gets = record { line = 1; name = codes "set"; args = 5 ∷ [] } ∷ record { line = 1; name = codes "get"; args = [] } ∷ []

-- three accesses and three, the last of which is the end of an empty list
set_and_got : List SourceEvent
unfolding begins
set_and_got = begins 0 0 5 ∷ Access 0 1 ∷ Access 0 0 ∷ Access 0 0 ∷ begins 0 1 0 ∷ Access 0 0 ∷ Access 0 0 ∷ Access 0 0 ∷ []

of_a_pair : verdict_on pairs (sets_and_gets ∷ []) set_and_got ((replies.Nothing ∷ replies.Number 5 ∷ []) ∷ []) ≡ Accepted
unfolding pairs sets_and_gets set_and_got begins
of_a_pair = refl

-- a null's number
of_null : verdict_on pairs (sets_and_gets ∷ []) set_and_got ((replies.Nothing ∷ replies.Number 0 ∷ []) ∷ []) ≡ Rejected 3 0
unfolding pairs sets_and_gets set_and_got begins
of_null = refl

-- what is accepted is told by the law
of_a_pair_is_true : IsTrueRun pairs (sets_and_gets ∷ []) set_and_got ((replies.Nothing ∷ replies.Number 5 ∷ []) ∷ [])
of_a_pair_is_true =
    (accepted_is_true pairs (sets_and_gets ∷ []) set_and_got ((replies.Nothing ∷ replies.Number 5 ∷ []) ∷ []) (omega arith) refl).0 of_a_pair
