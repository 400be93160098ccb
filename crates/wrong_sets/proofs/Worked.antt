-- The wrong sets computed on runs, in stages: the root leads to a retired node.
use Rattle.std.proofs.Common.{ℕ, ◌≡◌, ◌∙◌, Bool, false, true, List, [], ◌∷◌, ◌++◌, Some, None, refl, ap, arith}
use Rattle.std.specs.Prelude.{if◌then◌else◌, replicate}
use Rattle.norm_lang.specs.declared.text.Reg.TheVariants.{Ref}
use Rattle.norm_lang.specs.declared.text.Text.{Text}
use Rattle.norm_lang.specs.declared.registers.Reference.{Reference}
use Rattle.norm_lang.specs.Shipped.{next_entry, retiring}
use Rattle.source_machine.specs.declared.event.SourceEvent.{SourceEvent}
use Rattle.source_machine.specs.declared.event.SourceEvent.TheVariants.{Access}
use Rattle.norm_lang.specs.declared.reply.SourceReply.TheVariants as replies
use Rattle.source_machine.specs.declared.state.Value.TheVariants.{Number, Node}
use Rattle.source_machine.specs.declared.state.NamedNode.{NamedNode}
use Rattle.source_machine.specs.declared.state.Stand.{Stand}
use Rattle.source_machine.specs.declared.state.Stand.TheVariants.{InList}
use Rattle.source_machine.specs.declared.state.SourceCaller.{SourceCaller}
use Rattle.source_machine.specs.declared.state.SourceMachine.{SourceMachine}
use Rattle.source_machine.specs.State.{source_start}
use Rattle.source_machine.specs.Run.{is_enabled, source_step, source_run}
use Rattle.source_machine.specs.Proper.{itself, onward}
use Rattle.source_machine.specs.Keeper.{begins}
use Rattle.source_machine.specs.Hands.{Hand, registers, first_hand}
use Rattle.wrong_sets.specs.Wrong.{unmarking, moving, walking, unchecking, UnmarkingIsImproper, MovingIsImproper, WalkingIsImproper, UncheckingIsImproper}

append : (text : Text) (xs ys : List SourceEvent) (s s' : SourceMachine) → source_run text xs s ≡ Some s' → source_run text (xs ++ ys) s ≡ source_run text ys s'
append text [] ys s s' e = let z : s ≡ s' = (let y : Some s ≡ Some s' = e in cc) in ap (source_run text ys) z
append text (x ∷ xs) ys s s' e = of (is_enabled text s x) (append text xs ys (source_step text s x) s') e where
  of : (b : Bool) → (source_run text xs (source_step text s x) ≡ Some s' → source_run text (xs ++ ys) (source_step text s x) ≡ source_run text ys s')
      → (if b then source_run text xs (source_step text s x) else None) ≡ Some s'
      → (if b then source_run text (xs ++ ys) (source_step text s x) else None) ≡ source_run text ys s'
  of true k e = k e
  of false k e = absurd (let z : None ≡ Some s' = e in cc)

abbrev to : ℕ → Reference
to n = record { node = n; marked = false }

abbrev marked : ℕ → Reference
marked n = record { node = n; marked = true }

abbrev node : ℕ → ℕ → Reference → NamedNode
node n key next = record { name = n; kind = 0; values = Number key ∷ Node next ∷ [] }

abbrev machine : List NamedNode → List ℕ → SourceCaller → SourceCaller → SourceMachine
machine nodes retired c d = record { memory = record { nodes = nodes; roots = Node (to 1) ∷ []; retired = retired }; callers = c ∷ d ∷ [] }

abbrev idle_after : ℕ → SourceCaller
idle_after n = record { replies = replicate n (replies.Number 1); running = None }

abbrev stands : ℕ → ℕ → Hand → Stand → SourceCaller
stands op key hand stand = record {
  replies = replies.Number 1 ∷ replies.Number 1 ∷ [];
  running = Some (record { op = op; args = key ∷ 0 ∷ 0 ∷ 0 ∷ []; registers = registers hand; stand = stand });
}

-- 5 and then 7 are inserted, as the nodes 2 and 3
abbrev five : List SourceEvent
five = begins 0 0 5 ∷ Access 0 0 ∷ Access 0 0 ∷ Access 0 2 ∷ Access 0 0 ∷ Access 0 0 ∷ Access 0 0 ∷ []

abbrev seven : List SourceEvent
seven = begins 0 0 7 ∷ Access 0 0 ∷ Access 0 0 ∷ Access 0 0 ∷ Access 0 0 ∷ Access 0 3 ∷ Access 0 0 ∷ Access 0 0 ∷ Access 0 0 ∷ []

abbrev with_five : SourceMachine
with_five = machine (node 2 5 (to 0) ∷ node 1 0 (to 2) ∷ []) [] (idle_after 1) (idle_after 0)

abbrev filled : SourceMachine
filled = machine (node 3 7 (to 0) ∷ node 2 5 (to 3) ∷ node 1 0 (to 2) ∷ []) [] (idle_after 2) (idle_after 0)

abbrev last : List SourceEvent
last = Access 0 0 ∷ []

abbrev unmarking_first : List SourceEvent
unmarking_first = begins 0 1 5 ∷ Access 0 0 ∷ Access 0 0 ∷ Access 0 0 ∷ Access 0 0 ∷ []

abbrev unmarking_second : List SourceEvent
unmarking_second = begins 1 1 7 ∷ Access 1 0 ∷ Access 1 0 ∷ Access 1 0 ∷ Access 1 0 ∷ Access 1 0 ∷ Access 1 0 ∷ Access 1 0 ∷ []

abbrev unmarking_mid : SourceMachine
unmarking_mid = machine (node 3 7 (to 0) ∷ node 2 5 (to 3) ∷ node 1 0 (to 2) ∷ []) [] (stands 1 5 (record (first_hand (5 ∷ 0 ∷ 0 ∷ 0 ∷ [])) { n1 = 5; n2 = 1; r0 = to 1; r1 = to 2; r2 = to 3 }) (InList 17 (retiring (next_entry (Ref 0) (Ref 1) (Ref 2)) (Ref 1) ∷ []) 0)) (idle_after 0)

abbrev unmarking_taken : SourceMachine
unmarking_taken = machine (node 3 7 (to 0) ∷ node 2 5 (to 0) ∷ node 1 0 (to 2) ∷ []) (3 ∷ []) (stands 1 5 (record (first_hand (5 ∷ 0 ∷ 0 ∷ 0 ∷ [])) { n1 = 5; n2 = 1; r0 = to 1; r1 = to 2; r2 = to 3 }) (InList 17 (retiring (next_entry (Ref 0) (Ref 1) (Ref 2)) (Ref 1) ∷ []) 0)) (idle_after 1)

abbrev unmarking_end : SourceMachine
unmarking_end = machine (node 3 7 (to 0) ∷ node 2 5 (to 0) ∷ node 1 0 (to 3) ∷ []) (3 ∷ 2 ∷ []) (idle_after 3) (idle_after 1)

unmarking_run0 : source_run unmarking five (source_start unmarking 2) ≡ Some with_five
unmarking_run0 = refl

unmarking_run1 : source_run unmarking seven with_five ≡ Some filled
unmarking_run1 = refl

unmarking_run2 : source_run unmarking unmarking_first filled ≡ Some unmarking_mid
unmarking_run2 = refl

unmarking_run3 : source_run unmarking unmarking_second unmarking_mid ≡ Some unmarking_taken
unmarking_run3 = refl

unmarking_run4 : source_run unmarking last unmarking_taken ≡ Some unmarking_end
unmarking_run4 = refl

unmarking_run : source_run unmarking (five ++ (seven ++ (unmarking_first ++ (unmarking_second ++ last)))) (source_start unmarking 2) ≡ Some unmarking_end
unmarking_run =
    append unmarking five (seven ++ (unmarking_first ++ (unmarking_second ++ last))) (source_start unmarking 2) with_five unmarking_run0
    ∙ (append unmarking seven (unmarking_first ++ (unmarking_second ++ last)) with_five filled unmarking_run1
    ∙ (append unmarking unmarking_first (unmarking_second ++ last) filled unmarking_mid unmarking_run2
    ∙ (append unmarking unmarking_second last unmarking_mid unmarking_taken unmarking_run3 ∙ unmarking_run4)))

pub unmarking_is_improper : UnmarkingIsImproper
unmarking_is_improper proper =
    let k = proper 2 (five ++ (seven ++ (unmarking_first ++ (unmarking_second ++ last)))) unmarking_end (omega arith) (record { some = omega arith; runs = unmarking_run }) in
    let e : true ≡ false = k.roots 0 3 (record { node = 1; marked = false }) refl (onward 1 3 3 (1, false, refl) (itself 3)) in cc

abbrev walking_first : List SourceEvent
walking_first = begins 0 1 5 ∷ Access 0 0 ∷ Access 0 0 ∷ Access 0 0 ∷ Access 0 0 ∷ Access 0 0 ∷ []

abbrev walking_second : List SourceEvent
walking_second = begins 1 1 7 ∷ Access 1 0 ∷ Access 1 0 ∷ Access 1 0 ∷ Access 1 0 ∷ Access 1 0 ∷ Access 1 0 ∷ Access 1 0 ∷ Access 1 0 ∷ []

abbrev walking_mid : SourceMachine
walking_mid = machine (node 3 7 (to 0) ∷ node 2 5 (marked 3) ∷ node 1 0 (to 2) ∷ []) [] (stands 1 5 (record (first_hand (5 ∷ 0 ∷ 0 ∷ 0 ∷ [])) { n1 = 5; n2 = 1; r0 = to 1; r1 = to 2; r2 = to 3; r6 = marked 3 }) (InList 18 (next_entry (Ref 1) (Ref 2) (Ref 6) ∷ retiring (next_entry (Ref 0) (Ref 1) (Ref 2)) (Ref 1) ∷ []) 1)) (idle_after 0)

abbrev walking_taken : SourceMachine
walking_taken = machine (node 3 7 (marked 0) ∷ node 2 5 (to 0) ∷ node 1 0 (to 2) ∷ []) (3 ∷ []) (stands 1 5 (record (first_hand (5 ∷ 0 ∷ 0 ∷ 0 ∷ [])) { n1 = 5; n2 = 1; r0 = to 1; r1 = to 2; r2 = to 3; r6 = marked 3 }) (InList 18 (next_entry (Ref 1) (Ref 2) (Ref 6) ∷ retiring (next_entry (Ref 0) (Ref 1) (Ref 2)) (Ref 1) ∷ []) 1)) (idle_after 1)

abbrev walking_end : SourceMachine
walking_end = machine (node 3 7 (marked 0) ∷ node 2 5 (to 0) ∷ node 1 0 (to 3) ∷ []) (3 ∷ 2 ∷ []) (idle_after 3) (idle_after 1)

walking_run0 : source_run walking five (source_start walking 2) ≡ Some with_five
walking_run0 = refl

walking_run1 : source_run walking seven with_five ≡ Some filled
walking_run1 = refl

walking_run2 : source_run walking walking_first filled ≡ Some walking_mid
walking_run2 = refl

walking_run3 : source_run walking walking_second walking_mid ≡ Some walking_taken
walking_run3 = refl

walking_run4 : source_run walking last walking_taken ≡ Some walking_end
walking_run4 = refl

walking_run : source_run walking (five ++ (seven ++ (walking_first ++ (walking_second ++ last)))) (source_start walking 2) ≡ Some walking_end
walking_run =
    append walking five (seven ++ (walking_first ++ (walking_second ++ last))) (source_start walking 2) with_five walking_run0
    ∙ (append walking seven (walking_first ++ (walking_second ++ last)) with_five filled walking_run1
    ∙ (append walking walking_first (walking_second ++ last) filled walking_mid walking_run2
    ∙ (append walking walking_second last walking_mid walking_taken walking_run3 ∙ walking_run4)))

pub walking_is_improper : WalkingIsImproper
walking_is_improper proper =
    let k = proper 2 (five ++ (seven ++ (walking_first ++ (walking_second ++ last)))) walking_end (omega arith) (record { some = omega arith; runs = walking_run }) in
    let e : true ≡ false = k.roots 0 3 (record { node = 1; marked = false }) refl (onward 1 3 3 (1, false, refl) (itself 3)) in cc

abbrev moving_first : List SourceEvent
moving_first = begins 0 1 5 ∷ Access 0 0 ∷ Access 0 0 ∷ Access 0 0 ∷ Access 0 0 ∷ Access 0 0 ∷ []

abbrev moving_second : List SourceEvent
moving_second = begins 1 1 7 ∷ Access 1 0 ∷ Access 1 0 ∷ Access 1 0 ∷ Access 1 0 ∷ Access 1 0 ∷ Access 1 0 ∷ Access 1 0 ∷ Access 1 0 ∷ []

abbrev moving_mid : SourceMachine
moving_mid = machine (node 3 7 (to 0) ∷ node 2 5 (to 3) ∷ node 1 0 (to 2) ∷ []) [] (stands 1 5 (record (first_hand (5 ∷ 0 ∷ 0 ∷ 0 ∷ [])) { n1 = 5; n2 = 1; r0 = to 1; r1 = to 2; r2 = to 3; r6 = to 3 }) (InList 18 (next_entry (Ref 1) (Ref 2) (Ref 6) ∷ retiring (next_entry (Ref 0) (Ref 1) (Ref 2)) (Ref 1) ∷ []) 1)) (idle_after 0)

abbrev moving_taken : SourceMachine
moving_taken = machine (node 3 7 (to 0) ∷ node 2 5 (to 0) ∷ node 1 0 (to 2) ∷ []) (3 ∷ []) (stands 1 5 (record (first_hand (5 ∷ 0 ∷ 0 ∷ 0 ∷ [])) { n1 = 5; n2 = 1; r0 = to 1; r1 = to 2; r2 = to 3; r6 = to 3 }) (InList 18 (next_entry (Ref 1) (Ref 2) (Ref 6) ∷ retiring (next_entry (Ref 0) (Ref 1) (Ref 2)) (Ref 1) ∷ []) 1)) (idle_after 1)

abbrev moving_end : SourceMachine
moving_end = machine (node 3 7 (to 0) ∷ node 2 5 (to 0) ∷ node 1 0 (to 3) ∷ []) (3 ∷ 2 ∷ []) (idle_after 3) (idle_after 1)

moving_run0 : source_run moving five (source_start moving 2) ≡ Some with_five
moving_run0 = refl

moving_run1 : source_run moving seven with_five ≡ Some filled
moving_run1 = refl

moving_run2 : source_run moving moving_first filled ≡ Some moving_mid
moving_run2 = refl

moving_run3 : source_run moving moving_second moving_mid ≡ Some moving_taken
moving_run3 = refl

moving_run4 : source_run moving last moving_taken ≡ Some moving_end
moving_run4 = refl

moving_run : source_run moving (five ++ (seven ++ (moving_first ++ (moving_second ++ last)))) (source_start moving 2) ≡ Some moving_end
moving_run =
    append moving five (seven ++ (moving_first ++ (moving_second ++ last))) (source_start moving 2) with_five moving_run0
    ∙ (append moving seven (moving_first ++ (moving_second ++ last)) with_five filled moving_run1
    ∙ (append moving moving_first (moving_second ++ last) filled moving_mid moving_run2
    ∙ (append moving moving_second last moving_mid moving_taken moving_run3 ∙ moving_run4)))

pub moving_is_improper : MovingIsImproper
moving_is_improper proper =
    let k = proper 2 (five ++ (seven ++ (moving_first ++ (moving_second ++ last)))) moving_end (omega arith) (record { some = omega arith; runs = moving_run }) in
    let e : true ≡ false = k.roots 0 3 (record { node = 1; marked = false }) refl (onward 1 3 3 (1, false, refl) (itself 3)) in cc

abbrev loading_five : List SourceEvent
loading_five = begins 0 0 5 ∷ Access 0 0 ∷ Access 0 0 ∷ Access 0 0 ∷ Access 0 2 ∷ Access 0 0 ∷ Access 0 0 ∷ Access 0 0 ∷ []

abbrev loading_seven : List SourceEvent
loading_seven = begins 0 0 7 ∷ Access 0 0 ∷ Access 0 0 ∷ Access 0 0 ∷ Access 0 0 ∷ Access 0 0 ∷ Access 0 3 ∷ Access 0 0 ∷ Access 0 0 ∷ Access 0 0 ∷ []

abbrev unchecking_first : List SourceEvent
unchecking_first = begins 0 0 4 ∷ Access 0 0 ∷ Access 0 0 ∷ Access 0 0 ∷ Access 0 0 ∷ Access 0 0 ∷ Access 0 4 ∷ Access 0 0 ∷ Access 0 0 ∷ []

abbrev unchecking_second : List SourceEvent
unchecking_second = begins 1 1 7 ∷ Access 1 0 ∷ Access 1 0 ∷ Access 1 0 ∷ Access 1 0 ∷ Access 1 0 ∷ Access 1 0 ∷ Access 1 0 ∷ Access 1 0 ∷ []

abbrev unchecking_mid : SourceMachine
unchecking_mid = machine (node 4 4 (to 3) ∷ node 3 7 (to 0) ∷ node 2 5 (to 3) ∷ node 1 0 (to 2) ∷ []) [] (stands 0 4 (record (first_hand (4 ∷ 0 ∷ 0 ∷ 0 ∷ [])) { n1 = 5; n2 = 1; r0 = to 1; r1 = to 2; r2 = to 3; r4 = to 4 }) (InList 21 (next_entry (Ref 0) (Ref 1) (Ref 4) ∷ []) 0)) (idle_after 0)

abbrev unchecking_taken : SourceMachine
unchecking_taken = machine (node 4 4 (to 3) ∷ node 3 7 (marked 0) ∷ node 2 5 (to 0) ∷ node 1 0 (to 2) ∷ []) (3 ∷ []) (stands 0 4 (record (first_hand (4 ∷ 0 ∷ 0 ∷ 0 ∷ [])) { n1 = 5; n2 = 1; r0 = to 1; r1 = to 2; r2 = to 3; r4 = to 4 }) (InList 21 (next_entry (Ref 0) (Ref 1) (Ref 4) ∷ []) 0)) (idle_after 1)

abbrev unchecking_end : SourceMachine
unchecking_end = machine (node 4 4 (to 3) ∷ node 3 7 (marked 0) ∷ node 2 5 (to 0) ∷ node 1 0 (to 4) ∷ []) (3 ∷ []) (idle_after 3) (idle_after 1)

unchecking_run0 : source_run unchecking loading_five (source_start unchecking 2) ≡ Some with_five
unchecking_run0 = refl

unchecking_run1 : source_run unchecking loading_seven with_five ≡ Some filled
unchecking_run1 = refl

unchecking_run2 : source_run unchecking unchecking_first filled ≡ Some unchecking_mid
unchecking_run2 = refl

unchecking_run3 : source_run unchecking unchecking_second unchecking_mid ≡ Some unchecking_taken
unchecking_run3 = refl

unchecking_run4 : source_run unchecking last unchecking_taken ≡ Some unchecking_end
unchecking_run4 = refl

unchecking_run : source_run unchecking (loading_five ++ (loading_seven ++ (unchecking_first ++ (unchecking_second ++ last)))) (source_start unchecking 2) ≡ Some unchecking_end
unchecking_run =
    append unchecking loading_five (loading_seven ++ (unchecking_first ++ (unchecking_second ++ last))) (source_start unchecking 2) with_five unchecking_run0
    ∙ (append unchecking loading_seven (unchecking_first ++ (unchecking_second ++ last)) with_five filled unchecking_run1
    ∙ (append unchecking unchecking_first (unchecking_second ++ last) filled unchecking_mid unchecking_run2
    ∙ (append unchecking unchecking_second last unchecking_mid unchecking_taken unchecking_run3 ∙ unchecking_run4)))

pub unchecking_is_improper : UncheckingIsImproper
unchecking_is_improper proper =
    let k = proper 2 (loading_five ++ (loading_seven ++ (unchecking_first ++ (unchecking_second ++ last)))) unchecking_end (omega arith) (record { some = omega arith; runs = unchecking_run }) in
    let e : true ≡ false = k.roots 0 3 (record { node = 1; marked = false }) refl (onward 1 4 3 (1, false, refl) (onward 4 3 3 (1, false, refl) (itself 3))) in cc
