-- What a search has found out of its key, by the place where its caller stands.
use Rattle.std.proofs.Common.{ℕ, suc, ◌≡◌, ◌≢◌, ◌≤◌, ◌<◌, ◌⊎◌, ◌∙◌, Bool, true, false, List, Option, Some, sym, ap, subst, inl, inr, ⊎_elim, arith}
use Rattle.std.proofs.lemmas.Bool.{false_from_ne_true}
use Rattle.norm_lang.specs.declared.registers.Reference.{Reference}
use Rattle.norm_lang.specs.Registers.{no_reference}
use Rattle.norm_lang.specs.Local.{remainder}
use Rattle.source_machine.specs.Proper.{has}
use Rattle.source_machine.proofs.Places.{put_same, put_other}
use Rattle.source_histories.specs.declared.deed.Notes.{Notes}
use Rattle.source_histories.specs.Books.{Started}
use Rattle.source_histories.proofs.Dealing.{Times, ticked, Open}
use Rattle.set_source.specs.Places.{Kind, Insert, Remove, Contains, Hand, Place, First, Second, Key, Snip, New, PutKey, PutNext, Link, Mark, Missed, There, absent, present}
use Rattle.set_source.specs.Relation.{Public, Shared, Fine, Live, Seen, Within, Onward, Own, At, Goes}
use Rattle.set_source.proofs.Orders.{Before}
use Rattle.set_laws.proofs.Sorting.{keys, homed, homes, Sorted, SetOf, gap_none}

-- the node belongs to the key's bucket
abbrev pub HomeOf : ℕ → Shared → Reference → ℕ → Type 0
HomeOf b s r n = homes b (keys s) r.node ≡ remainder n b

-- it stands before the key there, and a further one, or null, after it
abbrev pub LeftOf : ℕ → Shared → Reference → ℕ → Type 0
LeftOf b s r n = HomeOf b s r n × ((r.node ≤ b) ⊎ (keys s r.node < n))

abbrev pub Ahead : Shared → Reference → ℕ → Type 0
Ahead s r n = (r.node ≡ 0) ⊎ (n < keys s r.node)

abbrev pub RightOf : ℕ → Shared → Reference → ℕ → Type 0
RightOf b s r n = (r.node ≡ 0) ⊎ (HomeOf b s r n × (n < keys s r.node))

-- at the event the key was missing, if it comes before the node
abbrev pub GapAt : Shared → Times (List ℕ) → ℕ → Started → ℕ → Reference → ℕ → Type 0
GapAt s T c call m r n = Open (List ℕ) T c call m × (Ahead s r n → has n (T.past m) ≡ false)

-- r1 wasn't marked when its `next` was loaded: its key was there, and if it comes before the one sought, that one was missing
-- if it comes before r2
pub record AtKey (b : ℕ) (s : Shared) (T : Times (List ℕ)) (notes : Notes) (c : ℕ) (call : Started) (h : Hand) : Type 0 where
  pub left : LeftOf b s h.r0 h.n0
  pub home : HomeOf b s h.r1 h.n0
  pub gap : GapAt s T c call notes.gap h.r1 h.n0
  pub onto : (h.r2.node ≡ 0) ⊎ HomeOf b s h.r2 h.n0
  pub loaded : Open (List ℕ) T c call notes.load
  pub there : has (keys s h.r1.node) (T.past notes.load) ≡ true
  pub next : keys s h.r1.node < h.n0 → Ahead s h.r2 h.n0 → has h.n0 (T.past notes.load) ≡ false

abbrev pub Facts : ℕ → Shared → Times (List ℕ) → Notes → ℕ → Started → Place → Hand → Type 0
Facts b s T notes c call (First k) h = LeftOf b s h.r0 h.n0
Facts b s T notes c call (Second k) h = LeftOf b s h.r0 h.n0 × HomeOf b s h.r1 h.n0 × GapAt s T c call notes.gap h.r1 h.n0
Facts b s T notes c call (Key k) h = AtKey b s T notes c call h
Facts b s T notes c call (Snip k) h = LeftOf b s h.r0 h.n0 × HomeOf b s h.r1 h.n0
Facts b s T notes c call New h = LeftOf b s h.r0 h.n0 × RightOf b s h.r1 h.n0
Facts b s T notes c call PutKey h = LeftOf b s h.r0 h.n0 × RightOf b s h.r1 h.n0
Facts b s T notes c call PutNext h = LeftOf b s h.r0 h.n0 × RightOf b s h.r1 h.n0 × (keys s h.r4.node ≡ h.n0)
Facts b s T notes c call Link h = LeftOf b s h.r0 h.n0 × RightOf b s h.r1 h.n0 × (keys s h.r4.node ≡ h.n0)
Facts b s T notes c call Mark h = keys s h.r1.node ≡ h.n0
Facts b s T notes c call (Missed Insert) h = Open (List ℕ) T c call notes.load × (has h.n0 (T.past notes.load) ≡ true)
Facts b s T notes c call (Missed Remove) h = Open (List ℕ) T c call notes.gap × (has h.n0 (T.past notes.gap) ≡ false)
Facts b s T notes c call (Missed Contains) h = Open (List ℕ) T c call notes.gap × (has h.n0 (T.past notes.gap) ≡ false)
Facts b s T notes c call There h = Open (List ℕ) T c call notes.load × (has h.n0 (T.past notes.load) ≡ true)
Facts b s T notes c call _ h = Unit {0}

-- where a search ends
pub facts_absent : (b : ℕ) (s : Shared) (T : Times (List ℕ)) (notes : Notes) (c : ℕ) (call : Started) (k : Kind) (h : Hand) → LeftOf b s h.r0 h.n0 → RightOf b s h.r1 h.n0 → Open (List ℕ) T c call notes.gap
    → has h.n0 (T.past notes.gap) ≡ false → Facts b s T notes c call (absent k) h
facts_absent b s T notes c call Insert h left right open_ none = (left, right)
facts_absent b s T notes c call _ h left right open_ none = (open_, none)

pub facts_present : (b : ℕ) (s : Shared) (T : Times (List ℕ)) (notes : Notes) (c : ℕ) (call : Started) (k : Kind) (h : Hand) → keys s h.r1.node ≡ h.n0 → Open (List ℕ) T c call notes.load
    → has h.n0 (T.past notes.load) ≡ true → Facts b s T notes c call (present k) h
facts_present b s T notes c call Remove h key open_ there = key
facts_present b s T notes c call _ h key open_ there = (open_, there)

-- what was true of earlier events stays so
pub open_kept : (T : Times (List ℕ)) (who : Option ℕ) (d m : ℕ) (a : List ℕ) (call : Started) → Open (List ℕ) T d call m → Open (List ℕ) (ticked T who a) d call m
open_kept T who d m a call o =
    let lt = o.past in
    record { by = put_other T.by T.time m who (λ e. let no : ⊥ = omega (arith, e, lt) in no) ∙ o.by; since = o.since; past = omega (arith, lt) }

pub open_now : (T : Times (List ℕ)) (c : ℕ) (a : List ℕ) (call : Started) → call.since < T.time → Open (List ℕ) (ticked T (Some c) a) c call T.time
open_now T c a call lt = record { by = put_same T.by T.time (Some c); since = lt; past = omega arith }

pub past_kept : (T : Times (List ℕ)) (who : Option ℕ) (m : ℕ) (a : List ℕ) → m < T.time → (ticked T who a).past m ≡ T.past m
past_kept T who m a lt = put_other T.past (suc T.time) m a (λ e. let no : ⊥ = omega (arith, e, lt) in no)

pub past_now : (T : Times (List ℕ)) (who : Option ℕ) (a : List ℕ) → (ticked T who a).past T.time ≡ T.past T.time
past_now T who a = put_other T.past (suc T.time) T.time a (λ e. let no : ⊥ = omega (arith, e) in no)

-- the node keeps its key, or is null
abbrev pub SameKey : Shared → Shared → Reference → Type 0
SameKey s s' r = keys s' r.node ≡ keys s r.node

abbrev pub NullOrSame : Shared → Shared → Reference → Type 0
NullOrSame s s' r = (r.node ≡ 0) ⊎ SameKey s s' r

pub seen_public : (s : Shared) (o : ℕ) (r : Reference) → Seen s o r → (s.cell r.node).owner ≡ Public
seen_public s o r k = ap (λ (x : Reference). (s.cell x.node).owner) k.1 ∙ k.2.0

pub within_public : (b : ℕ) (s : Shared) (o : ℕ) (r : Reference) → Within b s o r → (s.cell r.node).owner ≡ Public
within_public b s o r k = ap (λ (x : Reference). (s.cell x.node).owner) k.1 ∙ k.2.0

pub within_inner : (b : ℕ) (s : Shared) (o : ℕ) (r : Reference) → Within b s o r → b < r.node
within_inner b s o r k = let far = k.3 in let e : r.node ≡ k.0 = ap (λ (x : Reference). x.node) k.1 in omega (arith, far, e)

pub seen_key : (c o : ℕ) (s s' : Shared) (r : Reference) → Goes c s s' → Seen s o r → SameKey s s' r
seen_key c o s s' r g k = g.key r.node (seen_public s o r k)

pub within_key : (b c o : ℕ) (s s' : Shared) (r : Reference) → Goes c s s' → Within b s o r → SameKey s s' r
within_key b c o s s' r g k = g.key r.node (within_public b s o r k)

pub onward_key : (b c o : ℕ) (s s' : Shared) (r : Reference) → Goes c s s' → Onward b s o r → NullOrSame s s' r
onward_key b c o s s' r g (inl null) = inl (ap (λ (x : Reference). x.node) null)
onward_key b c o s s' r g (inr w) = inr (within_key b c o s s' r g w)

pub home_kept : (b : ℕ) (s s' : Shared) (r : Reference) (n : ℕ) → SameKey s s' r → HomeOf b s r n → HomeOf b s' r n
home_kept b s s' r n e k = ap (λ i. homed b i r.node) e ∙ k

pub left_kept : (b : ℕ) (s s' : Shared) (r : Reference) (n : ℕ) → SameKey s s' r → LeftOf b s r n → LeftOf b s' r n
left_kept b s s' r n e k = (home_kept b s s' r n e k.0, ⊎_elim (λ (le : r.node ≤ b). inl le) (λ (lt : keys s r.node < n). inr (omega (arith, lt, e))) k.1)

pub ahead_was : (s s' : Shared) (r : Reference) (n : ℕ) → NullOrSame s s' r → Ahead s' r n → Ahead s r n
ahead_was s s' r n (inl null) k = inl null
ahead_was s s' r n (inr e) (inl null) = inl null
ahead_was s s' r n (inr e) (inr lt) = inr (omega (arith, lt, e))

pub right_kept : (b : ℕ) (s s' : Shared) (r : Reference) (n : ℕ) → NullOrSame s s' r → RightOf b s r n → RightOf b s' r n
right_kept b s s' r n (inl null) k = inl null
right_kept b s s' r n (inr e) (inl null) = inl null
right_kept b s s' r n (inr e) (inr k) = inr (home_kept b s s' r n e k.0, (let lt = k.1 in omega (arith, lt, e)))

pub right_ahead : (b : ℕ) (s : Shared) (r : Reference) (n : ℕ) → RightOf b s r n → Ahead s r n
right_ahead b s r n (inl null) = inl null
right_ahead b s r n (inr k) = inr k.1

pub gap_kept : (s s' : Shared) (T : Times (List ℕ)) (who : Option ℕ) (d : ℕ) (a : List ℕ) (call : Started) (m : ℕ) (r : Reference) (n : ℕ) → NullOrSame s s' r → GapAt s T d call m r n → GapAt s' (ticked T who a) d call m r n
gap_kept s s' T who d a call m r n e k = (open_kept T who d m a call k.0, λ ahead. ap (has n) (past_kept T who m a k.0.past) ∙ k.1 (ahead_was s s' r n e ahead))

onto_kept : (b : ℕ) (s s' : Shared) (r : Reference) (n : ℕ) → NullOrSame s s' r → (r.node ≡ 0) ⊎ HomeOf b s r n → (r.node ≡ 0) ⊎ HomeOf b s' r n
onto_kept b s s' r n (inl null) k = inl null
onto_kept b s s' r n (inr e) (inl null) = inl null
onto_kept b s s' r n (inr e) (inr k) = inr (home_kept b s s' r n e k)

known_kept : (T : Times (List ℕ)) (who : Option ℕ) (d m n : ℕ) (x : Bool) (a : List ℕ) (call : Started) → Open (List ℕ) T d call m × (has n (T.past m) ≡ x) → Open (List ℕ) (ticked T who a) d call m × (has n ((ticked T who a).past m) ≡ x)
known_kept T who d m n x a call k = (open_kept T who d m a call k.0, ap (has n) (past_kept T who m a k.0.past) ∙ k.1)

-- an event of another caller leaves what is known
pub facts_kept : (b c d o : ℕ) (who : Option ℕ) (s s' : Shared) (T : Times (List ℕ)) (a : List ℕ) (notes : Notes) (call : Started) (place : Place) (h : Hand) → Fine b s → Goes c s s' → d ≢ c → At b s d o place h
    → Facts b s T notes d call place h → Facts b s' (ticked T who a) notes d call place h
facts_kept b c d o who s s' T a notes call (First kind) h f g ne at k =
    left_kept b s s' h.r0 h.n0 (subst (λ (r : Reference). SameKey s s' r) (sym at.2) (g.key (suc at.0) (f.sentinel at.0 at.1).owner)) k
facts_kept b c d o who s s' T a notes call (Second kind) h f g ne at k =
    (left_kept b s s' h.r0 h.n0 (seen_key c o s s' h.r0 g at.0) k.0, home_kept b s s' h.r1 h.n0 (within_key b c o s s' h.r1 g at.1) k.1, gap_kept s s' T who d a call notes.gap h.r1 h.n0 (inr (within_key b c o s s' h.r1 g at.1)) k.2)
facts_kept b c d o who s s' T a notes call (Key kind) h f g ne at k =
    let e1 = within_key b c o s s' h.r1 g at.1 in
    let e2 = onward_key b c o s s' h.r2 g at.2 in
    record {
      left = left_kept b s s' h.r0 h.n0 (seen_key c o s s' h.r0 g at.0) k.left;
      home = home_kept b s s' h.r1 h.n0 e1 k.home;
      gap = gap_kept s s' T who d a call notes.gap h.r1 h.n0 (inr e1) k.gap;
      onto = onto_kept b s s' h.r2 h.n0 e2 k.onto;
      loaded = open_kept T who d notes.load a call k.loaded;
      there = ap (λ i. has i ((ticked T who a).past notes.load)) e1 ∙ (ap (has (keys s h.r1.node)) (past_kept T who notes.load a k.loaded.past) ∙ k.there);
      next = λ lt ahead. ap (has h.n0) (past_kept T who notes.load a k.loaded.past) ∙ k.next (omega (arith, lt, e1)) (ahead_was s s' h.r2 h.n0 e2 ahead);
    }
facts_kept b c d o who s s' T a notes call (Snip kind) h f g ne at k = (left_kept b s s' h.r0 h.n0 (seen_key c o s s' h.r0 g at.0) k.0, home_kept b s s' h.r1 h.n0 (within_key b c o s s' h.r1 g at.1) k.1)
facts_kept b c d o who s s' T a notes call New h f g ne at k = (left_kept b s s' h.r0 h.n0 (seen_key c o s s' h.r0 g at.0) k.0, right_kept b s s' h.r1 h.n0 (onward_key b c o s s' h.r1 g at.1) k.1)
facts_kept b c d o who s s' T a notes call PutKey h f g ne at k = (left_kept b s s' h.r0 h.n0 (seen_key c o s s' h.r0 g at.0) k.0, right_kept b s s' h.r1 h.n0 (onward_key b c o s s' h.r1 g at.1) k.1)
facts_kept b c d o who s s' T a notes call PutNext h f g ne at k =
    (left_kept b s s' h.r0 h.n0 (seen_key c o s s' h.r0 g at.0) k.0, right_kept b s s' h.r1 h.n0 (onward_key b c o s s' h.r1 g at.1) k.1, own_key at.2 ∙ k.2) where
      own_key : Own s d h.r4 no_reference → SameKey s s' h.r4
      own_key w = subst (λ (r : Reference). SameKey s s' r) (sym w.1) (g.held_key w.0 d ne w.2)
facts_kept b c d o who s s' T a notes call Link h f g ne at k =
    (left_kept b s s' h.r0 h.n0 (seen_key c o s s' h.r0 g at.0) k.0, right_kept b s s' h.r1 h.n0 (onward_key b c o s s' h.r1 g at.1) k.1, own_key at.2 ∙ k.2) where
      own_key : Own s d h.r4 h.r1 → SameKey s s' h.r4
      own_key w = subst (λ (r : Reference). SameKey s s' r) (sym w.1) (g.held_key w.0 d ne w.2)
facts_kept b c d o who s s' T a notes call Mark h f g ne at k = within_key b c o s s' h.r1 g at.1 ∙ k
facts_kept b c d o who s s' T a notes call (Missed Insert) h f g ne at k = known_kept T who d notes.load h.n0 true a call k
facts_kept b c d o who s s' T a notes call (Missed Remove) h f g ne at k = known_kept T who d notes.gap h.n0 false a call k
facts_kept b c d o who s s' T a notes call (Missed Contains) h f g ne at k = known_kept T who d notes.gap h.n0 false a call k
facts_kept b c d o who s s' T a notes call There h f g ne at k = known_kept T who d notes.load h.n0 true a call k
facts_kept b c d o who s s' T a notes call _ h f g ne at k = tt

-- the key is missing now, between a live node and its successor
pub missing_now : (b : ℕ) (s : Shared) (set : List ℕ) (x0 n : ℕ) → Fine b s → Sorted b s → SetOf b s set → Live s x0 → homes b (keys s) x0 ≡ remainder n b → (x0 ≤ b) ⊎ (keys s x0 < n)
    → ((s.cell x0).next.node ≡ 0) ⊎ (n < keys s (s.cell x0).next.node) → has n set ≡ false
missing_now b s set x0 n f o h live home low high = false_from_ne_true (has n set) (λ e. gap_none b s x0 n f o live home low high (h.there n e))

-- the successor of a live node belongs to the same bucket
pub home_next : (b : ℕ) (s : Shared) (x0 n : ℕ) → Sorted b s → Live s x0 → homes b (keys s) x0 ≡ remainder n b → ((s.cell x0).next.node ≡ 0) ⊎ (homes b (keys s) (s.cell x0).next.node ≡ remainder n b)
home_next b s x0 n o live home = ⊎_elim
    (λ (null : (s.cell x0).next.node ≡ 0). inl null)
    (λ (p : Before b (homes b (keys s)) (keys s) x0 (s.cell x0).next.node). inr (sym p.together ∙ home))
    (o.rises x0 live)
