-- A frame is heard where its endpoint has a life and it counts, and what no frame names has no life and is told nothing.
use Rattle.std.proofs.Common.{◌≡◌, ℕ, ◌==◌, ◌&&◌, ◌||◌, ◌⊎◌, Bool, true, false, not, is_some, List, [], ◌∷◌, ◌++◌, Option, Some, None, All, Contains, find, if◌then◌else◌, refl, sym, ap, ◌∙◌, inl, inr}
use Rattle.std.specs.List.{list_all, list_any}
use Rattle.std.specs.Option.{option_map, option_map_or}
use Rattle.std.proofs.lemmas.Bool.{and_parts, eq-eqb, eqb-false, eqb-true, false_from_ne_true, or_left, or_right, true≢false}
use Rattle.std.proofs.lemmas.List.Elements.{All-contains, All-head, All-tail, Contains-append_cases}
use Rattle.fidl_names.specs.HandleNumber.{is_client}
use Rattle.wire_laws.specs.Laws.{SpelledWhereRead}
use Rattle.link_frames.specs.declared.kinds.FrameKind.{FrameKind}
use Rattle.link_frames.specs.declared.kinds.FrameKind.TheVariants as kind
use Rattle.link_frames.specs.declared.kinds.Side.TheVariants.{ToServers}
use Rattle.link_frames.specs.Frames.{Frame, IsFrame}
use Rattle.link_admission.specs.Numbering.{among}
use Rattle.conn_rules.specs.Births.{Position}
use Rattle.vfs_journal.specs.Entries.{hang_up}
use Rattle.vfs_journal.specs.Serving.{outcome_of_sending}
use Rattle.vfs_journal.specs.Starts.{Bound, Start}
use Rattle.vfs_journal.specs.View.{moved}
use Rattle.journal_laws.specs.Soundness.{IsStart}
use Rattle.journal_laws.proofs.Among.{member_of, passes_any}
use Rattle.journal_laws.proofs.Members.{found}
use Rattle.turn_law.specs.Counting.{FramesAreHeardWhereTheyCount, counts_on, is_close, is_open}
use Rattle.turn_law.specs.Told.{Table, answers, by_answer, is_heard, is_new, newborn, sending_by, sent_on, still, table_at_start, table_of}
use Rattle.turn_law.proofs.Linked.{close_has_none}
use Rattle.turn_law.proofs.LinkedSteps.{new_each, open_client}
use Rattle.turn_law.proofs.Touching.{frames_touch, table_named}

-- ---- what a hang-up does

hung_life : (start : Start) (table : Table) (n : ℕ) (pair : Bound × Position) → table.life n ≡ Some pair → pair.0.endpoint ≡ n → (sent_on start n hang_up table).life n ≡ None
unfolding answers outcome_of_sending
hung_life start table n pair lives own =
    ap (λ (o : Option (Bound × Position)). (by_answer (answers 0 start) n table (option_map (λ (p : Bound × Position). outcome_of_sending (still start p) hang_up) o)).life n) lives
    ∙ ap (λ (b : Bool). if b || false then None else option_map (moved n (outcome_of_sending (still start pair) hang_up).position) (table.life n)) (eq-eqb pair.0.endpoint n own)

-- ---- who lives is open

pub heard_parts : (start : Start) (table : Table) (frame : Frame) → is_heard start table frame ≡ true → (is_client frame.endpoint ≡ true) × (is_some (table.life frame.endpoint) ≡ true) × (list_all (is_new start) frame.handles ≡ true)
heard_parts start table frame h =
    let a = and_parts (is_client frame.endpoint) _ h in
    let b = and_parts (is_some (table.life frame.endpoint)) (list_all (is_new start) frame.handles) a.1 in
    (a.0, b.0, b.1)

pub first_open : (start : Start) (n : ℕ) (pair : Bound × Position) → IsStart start → is_client n ≡ true → (table_at_start start).life n ≡ Some pair → list_any (λ bound. bound.endpoint == n) start.firsts ≡ true
first_open start n pair s client lives = by_find (find (λ bound. bound.endpoint == n) (start.firsts ++ start.mounts)) refl lives where
  by_side : (bound : Bound) → bound.endpoint ≡ n → Contains start.firsts bound ⊎ Contains start.mounts bound → list_any (λ b. b.endpoint == n) start.firsts ≡ true
  by_side bound at (inl there) = passes_any (λ b. b.endpoint == n) start.firsts bound there (eq-eqb bound.endpoint n at)
  by_side bound at (inr there) = absurd (true≢false (sym client ∙ ap is_client (sym at) ∙ All-contains (λ (b : Bound). is_client b.endpoint ≡ false) start.mounts bound s.ends there))

  by_find : (o : Option Bound) → find (λ bound. bound.endpoint == n) (start.firsts ++ start.mounts) ≡ o → option_map newborn o ≡ Some pair → list_any (λ bound. bound.endpoint == n) start.firsts ≡ true
  by_find None is e = absurd (cc)
  by_find (Some bound) is e =
      let one = found (λ b. b.endpoint == n) (start.firsts ++ start.mounts) bound is in
      by_side bound (eqb-true bound.endpoint n one.1) (Contains-append_cases start.firsts start.mounts bound one.0)

-- a frame before which frames count leaves that so, where it is no Close there
stays_open : (start : Start) (n : ℕ) (frame : Frame) (frames : List Frame) → is_open start n frames ≡ true → (is_close frame.kind && (frame.endpoint == n)) ≡ false → is_open start n (frame ∷ frames) ≡ true
unfolding is_open
stays_open start n frame frames opens unclosed =
    ap (λ (b : Bool). (among n frame.handles && is_new start n) || (b && not (is_close frame.kind && (frame.endpoint == n)))) opens
    ∙ ap (λ (b : Bool). (among n frame.handles && is_new start n) || not b) unclosed
    ∙ or_right (among n frame.handles && is_new start n) true refl

opens_new : (start : Start) (n : ℕ) (frame : Frame) (frames : List Frame) → among n frame.handles ≡ true → is_new start n ≡ true → is_open start n (frame ∷ frames) ≡ true
unfolding is_open
opens_new start n frame frames carried new =
    or_left (among n frame.handles && is_new start n) _ (ap (λ (b : Bool). b && is_new start n) carried ∙ new)

pub some_life : {o : Option (Bound × Position)} → is_some o ≡ true → (pair : Bound × Position) × (o ≡ Some pair)
some_life {o} h = by_option o h where
  by_option : (x : Option (Bound × Position)) → is_some x ≡ true → (pair : Bound × Position) × (x ≡ Some pair)
  by_option None e = absurd (cc)
  by_option (Some pair) e = (pair, refl)

unclosed_elsewhere : (k : FrameKind) (e n : ℕ) → (e == n) ≡ false → (is_close k && (e == n)) ≡ false
unclosed_elsewhere k e n other = ap (λ (b : Bool). is_close k && b) other ∙ none (is_close k) where
  none : (b : Bool) → (b && false) ≡ false
  none true = refl
  none false = refl

-- the table of one frame more, where it is heard and where it isn't
pub heard_table : (start : Start) (frame : Frame) (frames : List Frame) (b : Bool) → is_heard start (table_of start frames) frame ≡ b →
    table_of start (frame ∷ frames) ≡ (if b then option_map_or (λ sending. sent_on start frame.endpoint sending (table_of start frames)) (sending_by frame.kind frame) (table_of start frames) else table_of start frames)
unfolding table_of
heard_table start frame frames b is =
    ap (λ (x : Bool). if x then option_map_or (λ sending. sent_on start frame.endpoint sending (table_of start frames)) (sending_by frame.kind frame) (table_of start frames) else table_of start frames) is

pub unheard_table : (start : Start) (frame : Frame) (frames : List Frame) → is_heard start (table_of start frames) frame ≡ false → table_of start (frame ∷ frames) ≡ table_of start frames
unheard_table start frame frames is = heard_table start frame frames false is

lives_open_by : SpelledWhereRead → (start : Start) (n : ℕ) (frame : Frame) (frames : List Frame) (pair : Bound × Position) → IsStart start → IsFrame ToServers frame → is_client n ≡ true →
    ((p : Bound × Position) → (table_of start frames).life n ≡ Some p → is_open start n frames ≡ true) → (table_of start (frame ∷ frames)).life n ≡ Some pair → is_open start n (frame ∷ frames) ≡ true
lives_open_by law start n frame frames pair s frame' client rest lives = by_heard (is_heard start (table_of start frames) frame) refl where
  table : Table
  table = table_of start frames

  -- a Close on who lives is heard
  close_heard : (p : Bound × Position) → table.life n ≡ Some p → frame.kind ≡ kind.Close → frame.endpoint ≡ n → is_heard start table frame ≡ true
  close_heard p there is at =
      ap (λ (m : ℕ). is_client m && (is_some (table.life m) && list_all (is_new start) frame.handles)) at
      ∙ ap (λ (b : Bool). b && (is_some (table.life n) && list_all (is_new start) frame.handles)) client
      ∙ ap (λ (o : Option (Bound × Position)). is_some o && list_all (is_new start) frame.handles) there
      ∙ ap (list_all (is_new start)) (close_has_none frame is frame')

  unclosed : is_heard start table frame ≡ false → (p : Bound × Position) → table.life n ≡ Some p → (k : FrameKind) → frame.kind ≡ k → (b : Bool) → (frame.endpoint == n) ≡ b → (is_close k && b) ≡ false
  unclosed unheard p there k is false e = unclosed_by (is_close k) where
    unclosed_by : (c : Bool) → (c && false) ≡ false
    unclosed_by true = refl
    unclosed_by false = refl
  unclosed unheard p there kind.Close is true e = absurd (true≢false (sym (close_heard p there is (eqb-true frame.endpoint n e)) ∙ unheard))
  unclosed unheard p there kind.Message is true e = refl
  unclosed unheard p there kind.Turn is true e = refl
  unclosed unheard p there kind.Pick is true e = refl
  unclosed unheard p there kind.Refused is true e = refl

  close_test : (k : FrameKind) (b : Bool) → frame.kind ≡ k → (frame.endpoint == n) ≡ b → (is_close k && b) ≡ false → (is_close frame.kind && (frame.endpoint == n)) ≡ false
  close_test k b is e h = ap (λ (x : FrameKind). is_close x && (frame.endpoint == n)) is ∙ ap (λ (x : Bool). is_close k && x) e ∙ h

  -- a frame that is heard on the endpoint
  heard_here : is_heard start table frame ≡ true → frame.endpoint ≡ n → (k : FrameKind) → frame.kind ≡ k → is_open start n (frame ∷ frames) ≡ true
  heard_here heard at k is =
      let here = some_life (ap (λ (m : ℕ). is_some (table.life m)) (sym at) ∙ (heard_parts start table frame heard).1) in
      by_kind k is here.0 here.1 where
        closed_life : (p : Bound × Position) → table.life n ≡ Some p → frame.kind ≡ kind.Close → (table_of start (frame ∷ frames)).life n ≡ None
        closed_life p there is' =
            ap (λ (t : Table). t.life n) (heard_table start frame frames true heard)
            ∙ ap (λ (x : FrameKind). (option_map_or (λ sending. sent_on start frame.endpoint sending table) (sending_by x frame) table).life n) is'
            ∙ ap (λ (m : ℕ). (sent_on start m hang_up table).life n) at
            ∙ hung_life start table n p there ((table_named start frames).own n p there)

        by_kind : (j : FrameKind) → frame.kind ≡ j → (p : Bound × Position) → table.life n ≡ Some p → is_open start n (frame ∷ frames) ≡ true
        by_kind kind.Close is' p there = absurd (let wrong : None ≡ Some pair = sym (closed_life p there is') ∙ lives in cc)
        by_kind kind.Message is' p there = stays_open start n frame frames (rest p there) (ap (λ (x : FrameKind). is_close x && (frame.endpoint == n)) is')
        by_kind kind.Turn is' p there = stays_open start n frame frames (rest p there) (ap (λ (x : FrameKind). is_close x && (frame.endpoint == n)) is')
        by_kind kind.Pick is' p there = stays_open start n frame frames (rest p there) (ap (λ (x : FrameKind). is_close x && (frame.endpoint == n)) is')
        by_kind kind.Refused is' p there = stays_open start n frame frames (rest p there) (ap (λ (x : FrameKind). is_close x && (frame.endpoint == n)) is')

  heard_there : is_heard start table frame ≡ true → (carried : Bool) → among n frame.handles ≡ carried → (here : Bool) → (frame.endpoint == n) ≡ here → is_open start n (frame ∷ frames) ≡ true
  heard_there heard true c here e = opens_new start n frame frames c (new_each start frame.handles (heard_parts start table frame heard).2 n (member_of n frame.handles c))
  heard_there heard false c true e = heard_here heard (eqb-true frame.endpoint n e) frame.kind refl
  heard_there heard false c false e =
      let before = sym (frames_touch law start frame frames n client (eqb-false frame.endpoint n e) c).life ∙ lives in
      stays_open start n frame frames (rest pair before) (unclosed_elsewhere frame.kind frame.endpoint n e)

  by_heard : (b : Bool) → is_heard start table frame ≡ b → is_open start n (frame ∷ frames) ≡ true
  by_heard true is = heard_there is (among n frame.handles) refl (frame.endpoint == n) refl
  by_heard false is =
      let before = sym (ap (λ (t : Table). t.life n) (unheard_table start frame frames is)) ∙ lives in
      stays_open start n frame frames (rest pair before) (unclosed is pair before frame.kind refl (frame.endpoint == n) refl)

pub lives_open : SpelledWhereRead → (start : Start) (n : ℕ) (frames : List Frame) (pair : Bound × Position) → IsStart start → All (IsFrame ToServers) frames → is_client n ≡ true → (table_of start frames).life n ≡ Some pair → is_open start n frames ≡ true
unfolding table_of is_open
lives_open law start n [] pair s all client lives = first_open start n pair s client lives
lives_open law start n (frame ∷ frames) pair s all client lives =
    lives_open_by law start n frame frames pair s (All-head (IsFrame ToServers) frame frames all) client
    (λ p there. lives_open law start n frames p s (All-tail (IsFrame ToServers) frame frames all) client there) lives

-- ---- the law

pub heard_where_counted : SpelledWhereRead → FramesAreHeardWhereTheyCount
heard_where_counted law start frame earlier s all =
    by_tests (is_client frame.endpoint) refl (table.life frame.endpoint) refl where
      table : Table
      table = table_of start earlier

      no_client : is_client frame.endpoint ≡ false → is_open start frame.endpoint earlier ≡ false
      no_client none = false_from_ne_true (is_open start frame.endpoint earlier) (λ h. true≢false (sym (open_client start frame.endpoint earlier s h) ∙ none))

      none_right : (b : Bool) → (b && false) ≡ false
      none_right true = refl
      none_right false = refl

      counted_as : (opens : Bool) → is_open start frame.endpoint earlier ≡ opens → counts_on start frame.endpoint earlier frame ≡ (opens && list_all (is_new start) frame.handles)
      counted_as opens e =
          ap (λ (b : Bool). b && (is_open start frame.endpoint earlier && list_all (is_new start) frame.handles)) (eq-eqb frame.endpoint frame.endpoint refl)
          ∙ ap (λ (b : Bool). b && list_all (is_new start) frame.handles) e

      by_tests : (client : Bool) → is_client frame.endpoint ≡ client → (o : Option (Bound × Position)) → table.life frame.endpoint ≡ o →
          is_heard start table frame ≡ (is_some (table.life frame.endpoint) && counts_on start frame.endpoint earlier frame)
      by_tests false c o e =
          ap (λ (b : Bool). b && (is_some (table.life frame.endpoint) && list_all (is_new start) frame.handles)) c
          ∙ sym (ap (λ (b : Bool). is_some (table.life frame.endpoint) && b) (counted_as false (no_client c)) ∙ none_right (is_some (table.life frame.endpoint)))
      by_tests true c None e =
          ap (λ (b : Bool). b && (is_some (table.life frame.endpoint) && list_all (is_new start) frame.handles)) c
          ∙ ap (λ (x : Option (Bound × Position)). is_some x && list_all (is_new start) frame.handles) e
          ∙ sym (ap (λ (x : Option (Bound × Position)). is_some x && counts_on start frame.endpoint earlier frame) e)
      by_tests true c (Some pair) e =
          let opens = lives_open law start frame.endpoint earlier pair s (All-tail (IsFrame ToServers) frame earlier all) c e in
          ap (λ (b : Bool). b && (is_some (table.life frame.endpoint) && list_all (is_new start) frame.handles)) c
          ∙ ap (λ (x : Option (Bound × Position)). is_some x && list_all (is_new start) frame.handles) e
          ∙ sym (ap (λ (x : Option (Bound × Position)). is_some x && counts_on start frame.endpoint earlier frame) e ∙ counted_as true opens)
