-- Frames that are written one after another, until all are written or memory is wanting.
use Rattle.std.proofs.Common.{◌≡◌, ℕ, true, false, List, [], ◌∷◌, ◌++◌, length, take, map, filter, refl, sym, ap, subst, ◌∙◌, append_assoc, arith, min}
use Rattle.std.specs.Prelude.{◌+◌, Result, Ok, Err, OnErr, OnOk}
use Rattle.std.proofs.Math.Seq.{take-append-add, take-append_seam}
use Rattle.std.proofs.lemmas.List.{append-nil, flat_map_more, take-append-le, take_min}
use Rattle.std.proofs.Math.Nat.{min-le_right}
use Rattle.link_frames.specs.Frames.{Frame, spelling, spellings}
use Rattle.link_frames.proofs.Runs.{spellings-append}
use Rattle.watch_events.specs.Events.{event_bytes}
use Rattle.watch_events.specs.Messages.{Watcher, WritesFront, asks_for, told, watch_frame}

-- of these frames the last ones are left, and those in front of them are written
pub record IsLeft (frames rest : List Frame) (before now : List ℕ) : Type 0 where
  pub done : List Frame
  pub split : frames ≡ done ++ rest
  pub written : now ≡ before ++ spellings done

pub all_left : (frames : List Frame) (before : List ℕ) → IsLeft frames frames before before
all_left frames before = record { done = []; split = refl; written = sym (append-nil before) }

pub one_less : (frames rest : List Frame) (frame : Frame) (before now next : List ℕ) → IsLeft frames (frame ∷ rest) before now → next ≡ now ++ spelling frame → IsLeft frames rest before next
one_less frames rest frame before now next was more = record {
  done = was.done ++ frame ∷ [];
  split = was.split ∙ sym (append_assoc was.done (frame ∷ []) rest);
  written = more ∙ ap (λ (bytes : List ℕ). bytes ++ spelling frame) was.written ∙ flat_map_more spelling before was.done frame;
}

pub none_left : (frames : List Frame) (before now : List ℕ) → IsLeft frames [] before now → now ≡ before ++ spellings frames
none_left frames before now was = was.written ∙ ap (λ (done : List Frame). before ++ spellings done) (sym (was.split ∙ append-nil was.done))

pub front_left : (frames rest : List Frame) (before now next : List ℕ) → IsLeft frames rest before now → next ≡ now → WritesFront frames before next
front_left frames rest before now next was same = record {
  many = length was.done;
  front = same ∙ was.written
      ∙ ap (λ (done : List Frame). before ++ spellings done) (sym (ap (take (length was.done)) was.split ∙ take-append_seam was.done rest));
}

-- ---- the watchers that ask for an event

abbrev pub frames_to : List Watcher → ℕ → List ℕ → List Frame
frames_to row event bytes = map (λ watcher. watch_frame watcher.endpoint bytes) (filter (λ watcher. asks_for watcher.mask event) row)

pub asking : (w : Watcher) (row : List Watcher) (event : ℕ) (bytes : List ℕ) → asks_for w.mask event ≡ true → frames_to (w ∷ row) event bytes ≡ watch_frame w.endpoint bytes ∷ frames_to row event bytes
asking w row event bytes asks = rw asks refl

-- the first of those that are left has the next frame where it asks for the event
pub next_left : (all : List Frame) (row rest : List Watcher) (w : Watcher) (event : ℕ) (bytes before now : List ℕ) → IsLeft all (frames_to row event bytes) before now → row ≡ w ∷ rest
    → asks_for w.mask event ≡ true → IsLeft all (watch_frame w.endpoint bytes ∷ frames_to rest event bytes) before now
next_left all row rest w event bytes before now was is asks =
    subst (λ (frames : List Frame). IsLeft all frames before now) (ap (λ (r : List Watcher). frames_to r event bytes) is ∙ asking w rest event bytes asks) was

pub not_asking : (w : Watcher) (row : List Watcher) (event : ℕ) (bytes : List ℕ) → asks_for w.mask event ≡ false → frames_to (w ∷ row) event bytes ≡ frames_to row event bytes
not_asking w row event bytes asks = rw asks refl

-- what is told is the same message to each
frames_told : (row was : List Watcher) (event number : ℕ) (bytes name : List ℕ) → row ≡ was → event ≡ number → bytes ≡ event_bytes event name → frames_to row event bytes ≡ told was number name
frames_told row was event number bytes name rows events message =
    ap (λ (b : List ℕ). frames_to row event b) message ∙ ap (λ (r : List Watcher). told r event name) rows ∙ ap (λ e. told was e name) events

pub length-event : (event : ℕ) (name : List ℕ) → length (event_bytes event name) ≡ 2 + length name
length-event event name = omega arith

-- an event in front of other bytes
pub event_in_front : (event : ℕ) (name more : List ℕ) → take (2 + length name) (event_bytes event name ++ more) ≡ event_bytes event name
event_in_front event name more =
    ap (λ (n : ℕ). take n (event_bytes event name ++ more)) (sym (length-event event name)) ∙ take-append_seam (event_bytes event name) more

module _ {A E : Type 0} (result : Result A E) (row was : List Watcher) (event number : ℕ) (bytes name before now : List ℕ)
    (rows : row ≡ was) (events : event ≡ number) (message : bytes ≡ event_bytes event name) where
  pub told_all : OnOk result (now ≡ before ++ spellings (frames_to row event bytes)) → OnOk result (now ≡ before ++ spellings (told was number name))
  told_all all = subst (λ (frames : List Frame). OnOk result (now ≡ before ++ spellings frames)) (frames_told row was event number bytes name rows events message) all

  pub told_front : OnErr result (WritesFront (frames_to row event bytes) before now) → OnErr result (WritesFront (told was number name) before now)
  told_front front = subst (λ (frames : List Frame). OnErr result (WritesFront frames before now)) (frames_told row was event number bytes name rows events message) front

pub told_nobody : (was : List Watcher) (event : ℕ) (name before : List ℕ) → was ≡ [] → before ≡ before ++ spellings (told was event name)
told_nobody was event name before none = sym (ap (λ (row : List Watcher). before ++ spellings (told row event name)) none ∙ append-nil before)

-- ---- want of memory

pub for_want : {A E P : Type 0} (result : Result A E) → P → OnErr result P
for_want (Ok value) holds = tt
for_want (Err fault) holds = holds

-- what is told at first, and then more
pub front_first : (frames more : List Frame) (before now : List ℕ) → WritesFront frames before now → WritesFront (frames ++ more) before now
front_first frames more before now front = record {
  many = min front.many (length frames);
  front = front.front
      ∙ ap (λ (done : List Frame). before ++ spellings done) (sym (take-append-le (min front.many (length frames)) frames more (min-le_right front.many (length frames)) ∙ take_min front.many frames));
}

pub front_second : (frames more : List Frame) (before now next : List ℕ) → now ≡ before ++ spellings frames → next ≡ now → WritesFront (frames ++ more) before next
front_second frames more before now next all same =
    let was : IsLeft (frames ++ more) more before now = record { done = frames; split = refl; written = all } in
    front_left (frames ++ more) more before now next was same

-- all that is told at first, and a front of what is told then
pub front_behind : (frames more : List Frame) (before now next : List ℕ) → now ≡ before ++ spellings frames → WritesFront more now next → WritesFront (frames ++ more) before next
front_behind frames more before now next all front = record {
  many = length frames + front.many;
  front = front.front
      ∙ ap (λ (bytes : List ℕ). bytes ++ spellings (take front.many more)) all
      ∙ append_assoc before (spellings frames) (spellings (take front.many more))
      ∙ ap (λ (bytes : List ℕ). before ++ bytes) (sym (spellings-append frames (take front.many more)))
      ∙ ap (λ (done : List Frame). before ++ spellings done) (sym (take-append-add frames more front.many));
}

pub on_want : {A E P Q : Type 0} (result : Result A E) → (P → Q) → OnErr result P → OnErr result Q
on_want (Ok value) then_so holds = tt
on_want (Err fault) then_so holds = then_so holds
