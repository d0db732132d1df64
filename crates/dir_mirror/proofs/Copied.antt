-- What a copy stands for behind one more frame.
use Rattle.std.proofs.Common.{◌≡◌, ℕ, Bool, true, false, ◌||◌, ◌&&◌, List, [], ◌∷◌, ◌++◌, refl, sym, ap, subst, ◌∙◌, append_assoc, append-nil, arith}
use Rattle.path_walk.specs.Names.{dot}
use Rattle.std.specs.Str.{bytes_eq}
use Rattle.std.specs.Prelude.{not, IsTrue, Contains, if◌then◌else◌, OnOk, Result, Ok, Err}
use Rattle.std.specs.BTreeMap.{BTreeMap, IsOrdered}
use Rattle.std.specs.List.{list_any}
use Rattle.std.specs.List.Sorted.{IsStrictlySortedBy}
use Rattle.std.proofs.lemmas.List.Folds.{list_any-append}
use Rattle.std.proofs.lemmas.List.Elements.{filter-append}
use Rattle.link_frames.specs.Frames.{Frame}
use Rattle.watch_events.specs.Events.{Event}
use Rattle.watch_events.specs.NamesNow.{is_named_now}
use Rattle.dir_mirror.specs.Copies.{AreGood, AreTold, Copy, Mirrors, is_close_on, is_deletion, is_message_on, messages_on}
use Rattle.dir_mirror.specs.Seats.{after_events, is_there, names_of}
use Rattle.dir_mirror.specs.Steps.{TakesEvents}
use Rattle.dir_mirror.proofs.Changed.{named_after}
use Rattle.dir_mirror.proofs.Kept.{by_bytes, contains_there, names_ascend}

-- one more message
told_more : (messages : List Frame) (message : Frame) (events here : List Event) → AreTold messages events → AreGood message.bytes here
    → AreTold (messages ++ message ∷ []) (events ++ here)
told_more [] message events here told good =
    (here, [], good, refl, ap (λ l. l ++ here) told ∙ sym (append-nil here))
told_more (m ∷ messages) message events here told good =
    (told.0, told.1 ++ here, told.2, told_more messages message told.1 here told.3 good, ap (λ l. l ++ here) told.4 ∙ append_assoc told.0 told.1 here)

messages_more : (endpoint : ℕ) (frames : List Frame) (frame : Frame) (b : Bool) → is_message_on endpoint frame ≡ b
    → messages_on endpoint (frames ++ frame ∷ []) ≡ messages_on endpoint frames ++ (if b then frame ∷ [] else [])
messages_more endpoint frames frame true is = filter-append (is_message_on endpoint) frames (frame ∷ []) ∙ ap (λ b. messages_on endpoint frames ++ (if b then frame ∷ [] else [])) is
messages_more endpoint frames frame false is = filter-append (is_message_on endpoint) frames (frame ∷ []) ∙ ap (λ b. messages_on endpoint frames ++ (if b then frame ∷ [] else [])) is

closes_more : (endpoint : ℕ) (frames : List Frame) (frame : Frame) (b : Bool) → is_close_on endpoint frame ≡ b
    → list_any (is_close_on endpoint) (frames ++ frame ∷ []) ≡ (list_any (is_close_on endpoint) frames || b)
closes_more endpoint frames frame b is =
    list_any-append (is_close_on endpoint) frames (frame ∷ []) ∙ ap (λ c. list_any (is_close_on endpoint) frames || c) (last_of (is_close_on endpoint frame) ∙ is)
  where
    last_of : (c : Bool) → (c || false) ≡ c
    last_of true = refl
    last_of false = refl

or_none : (a b : Bool) → (a || b) ≡ (a || (b || false))
or_none true b = refl
or_none false true = refl
or_none false false = refl

or_true : (a b : Bool) → true ≡ (a || (b || true))
or_true true b = refl
or_true false true = refl
or_true false false = refl

or_turned : (a b c : Bool) → (a || (b || c)) ≡ ((b || a) || (c || false))
or_turned true true c = refl
or_turned true false true = refl
or_turned true false false = refl
or_turned false true c = refl
or_turned false false true = refl
or_turned false false false = refl

-- a frame that says nothing
pub passes_over : (copy : Copy) (frames : List Frame) (frame : Frame) → Mirrors copy frames → is_message_on copy.endpoint frame ≡ false
    → is_close_on copy.endpoint frame ≡ false → Mirrors copy (frames ++ frame ∷ [])
passes_over copy frames frame m no_message no_close = record {
  events = m.events;
  told = subst (λ l. AreTold l m.events) (sym (messages_more copy.endpoint frames frame false no_message ∙ append-nil (messages_on copy.endpoint frames))) m.told;
  ascending = m.ascending;
  named = m.named;
  ended = m.ended ∙ or_none (list_any is_deletion m.events) (list_any (is_close_on copy.endpoint) frames)
      ∙ ap (λ b. list_any is_deletion m.events || b) (sym (closes_more copy.endpoint frames frame false no_close));
}

-- a Close frame
pub closes : (old new : Copy) (frames : List Frame) (frame : Frame) → Mirrors old frames → is_message_on old.endpoint frame ≡ false
    → is_close_on old.endpoint frame ≡ true → new ≡ record old { ended = true } → Mirrors new (frames ++ frame ∷ [])
closes old new frames frame m no_message close is = subst (λ c. Mirrors c (frames ++ frame ∷ [])) (sym is) (record {
  events = m.events;
  told = subst (λ l. AreTold l m.events) (sym (messages_more old.endpoint frames frame false no_message ∙ append-nil (messages_on old.endpoint frames))) m.told;
  ascending = m.ascending;
  named = m.named;
  ended = or_true (list_any is_deletion m.events) (list_any (is_close_on old.endpoint) frames)
      ∙ ap (λ b. list_any is_deletion m.events || b) (sym (closes_more old.endpoint frames frame true close));
})

-- a message with good events
pub takes : (old new : Copy) (frames : List Frame) (frame : Frame) (here : List Event) → Mirrors old frames → is_message_on old.endpoint frame ≡ true
    → is_close_on old.endpoint frame ≡ false → AreGood frame.bytes here → TakesEvents old here new → new.endpoint ≡ old.endpoint → Mirrors new (frames ++ frame ∷ [])
takes old new frames frame here m message no_close good t same =
    record {
      events = m.events ++ here;
      told = subst (λ l. AreTold l (m.events ++ here)) (sym (ap (λ e. messages_on e (frames ++ frame ∷ [])) same ∙ messages_more old.endpoint frames frame true message))
          (told_more (messages_on old.endpoint frames) frame m.events here m.told good);
      ascending = t.ascending;
      named = λ name.
          let both = t.named (is_named_now m.events name) name (m.named name) in
          let now = named_after m.events here name in
          (λ has. sym now ∙ both.0 has, λ is. both.1 (now ∙ is));
      ended = t.ended ∙ ap (λ b. list_any is_deletion here || b) m.ended
          ∙ or_turned (list_any is_deletion here) (list_any is_deletion m.events) (list_any (is_close_on old.endpoint) frames)
          ∙ ap (λ b. b || (list_any (is_close_on old.endpoint) frames || false)) (sym (list_any-append is_deletion m.events here))
          ∙ ap (λ b. list_any is_deletion (m.events ++ here) || b) (sym (ap (λ e. list_any (is_close_on e) (frames ++ frame ∷ [])) same ∙ closes_more old.endpoint frames frame false no_close));
    }

-- ---- the steps of a message

same_answer : (a b : Bool) → (IsTrue a → IsTrue b) → (IsTrue b → IsTrue a) → a ≡ b
same_answer true b f g = sym (f refl)
same_answer false true f g = g refl
same_answer false false f g = refl

-- seats are given, written, and taken away again
pub takes_events : {K : Type 0} (bytes : K → List ℕ) (old new : Copy) (before seated marked swept : BTreeMap K Bool) (events : List Event)
    → old.names ≡ names_of bytes before.entries → new.names ≡ names_of bytes swept.entries
    → IsOrdered (by_bytes bytes) before → IsOrdered (by_bytes bytes) marked → IsOrdered (by_bytes bytes) swept
    → ((name : List ℕ) → is_there bytes seated name ≡ is_there bytes before name)
    → ((name : List ℕ) → is_there bytes marked name ≡ after_events (is_there bytes seated name) events name)
    → names_of bytes swept.entries ≡ names_of bytes marked.entries
    → new.ended ≡ (list_any is_deletion events || old.ended) → TakesEvents old events new
takes_events bytes old new before seated marked swept events names names' ordered ordered' ordered'' there told same ended = record {
  ascending = rw names' (names_ascend bytes swept.entries ordered'');
  named = λ was name is.
      let now = contains_there bytes marked name ordered' in
      let then_there = contains_there bytes before name ordered in
      let was_there : is_there bytes before name ≡ was =
      same_answer (is_there bytes before name) was
      (λ t. is.0 (subst (λ l. Contains l name) (sym names) (then_there.1 t))) (λ w. then_there.0 (subst (λ l. Contains l name) names (is.1 w))) in
      let after : is_there bytes marked name ≡ after_events was events name = told name ∙ ap (λ b. after_events b events name) (there name ∙ was_there) in (
        λ has. sym after ∙ now.0 (subst (λ l. Contains l name) (names' ∙ same) has),
        λ a. subst (λ l. Contains l name) (sym (names' ∙ same)) (now.1 (after ∙ a)),
      );
  ended = ended;
}

-- a new copy
pub nothing : (endpoint : ℕ) (names : List (List ℕ)) → names ≡ [] → Mirrors (record { endpoint = endpoint; names = names; ended = false }) []
unfolding IsStrictlySortedBy
nothing endpoint names e = subst (λ l. Mirrors (record { endpoint = endpoint; names = l; ended = false }) []) (sym e) (record {
  events = [];
  told = refl;
  ascending = tt;
  named = λ name. (λ has. absurd (omega (arith, has.1)), λ now. absurd (never (bytes_eq name dot) now));
  ended = refl;
})
  where
    never : (b : Bool) → (not b && false) ≡ true → ⊥
    never true e = cc
    never false e = cc

-- what holds of what a call gave
pub given : {T E : Type 0} (r : Result T E) {A C : Type 0} {B : A → Type 0} → OnOk r A → ((a : A) → OnOk r (B a)) → ((a : A) → B a → C) → OnOk r C
given (Ok x) a b c = c a (b a)
given (Err e) a b c = tt

-- whether the copy has ended, behind a message with these events
pub ended_by : (ended old deleted : Bool) (events others : List Event) → old ≡ ended → deleted ≡ list_any is_deletion others → events ≡ others
    → (ended || deleted) ≡ (list_any is_deletion events || old)
ended_by ended old deleted events others same is one =
    ap (λ b. ended || b) is ∙ either ended (list_any is_deletion others)
    ∙ ap (λ l. list_any is_deletion l || ended) (sym one) ∙ ap (λ b. list_any is_deletion events || b) (sym same)
  where
    either : (a b : Bool) → (a || b) ≡ (b || a)
    either true true = refl
    either true false = refl
    either false true = refl
    either false false = refl
