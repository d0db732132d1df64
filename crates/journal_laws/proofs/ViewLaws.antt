-- The views behind the steps of a lawful journal.
use Rattle.std.proofs.Common.{◌≡◌, ℕ, ◌+◌, ◌<◌, ◌==◌, false, List, [], ◌∷◌, ◌++◌, length, Option, Some, None, refl, sym, ap, ◌∙◌, append-nil, arith}
use Rattle.std.proofs.lemmas.Bool.{eq-eqb, eqb-true, false_from_ne_true, true≢false}
use Rattle.std.proofs.lemmas.List.Concat.{flat_map-append}
use Rattle.std.proofs.lemmas.List.Elements.{All-contains}
use Rattle.fidl_names.specs.declared.limits.TheConstants as limit
use Rattle.link_admission.specs.Admission.{admission}
use Rattle.link_frames.specs.declared.kinds.FrameKind.TheVariants as kind
use Rattle.link_frames.specs.Frames.{Frame, spelling, spellings}
use Rattle.vfs_journal.specs.Entries.{Sent, Sending, Journal, message, hang_up, sends, serves}
use Rattle.vfs_journal.specs.History.{History, is_dead, living, trees_of, waiting, was_carried}
use Rattle.vfs_journal.specs.Lawful.{Lawful}
use Rattle.vfs_journal.specs.Outcomes.{Forwarded, Given, Outcome}
use Rattle.vfs_journal.specs.Output.{frames_of, frames_of_serving, output_of}
use Rattle.vfs_journal.specs.Past.{event_of, history_of}
use Rattle.vfs_journal.specs.Serving.{outcome_of}
use Rattle.vfs_journal.specs.Session.{after_serving, head, look_ups, sent_behind, with_forward}
use Rattle.vfs_journal.specs.Starts.{Start}
use Rattle.vfs_journal.specs.Tokens.{all_given}
use Rattle.vfs_journal.specs.View.{View, event_in, frames_in, onward_in, sending_in, serving_in, then_in}
use Rattle.journal_laws.specs.Soundness.{IsStart}
use Rattle.journal_laws.specs.Viewing.{view_behind}
use Rattle.journal_laws.proofs.Among.{is_found, one_passes}
use Rattle.journal_laws.proofs.Below.{Below}
use Rattle.journal_laws.proofs.Kept.{close_admitted, is_serving, lawful_kept, message_admitted, refusal_of}
use Rattle.journal_laws.proofs.Queues.{what_goes_on_waits, what_is_sent_waits}
use Rattle.journal_laws.proofs.Stepping.{stepped}
use Rattle.journal_laws.proofs.TokensGiven.{AreGiven, lawful_given, next_is_length}
use Rattle.journal_laws.proofs.ViewParts.{frames_are, outcome_is_in}
use Rattle.journal_laws.proofs.ViewSteps.{BringsNew, sent_viewed, served_in_view}

-- ---- what is sent

pub sent_behind_viewed : (start : Start) (journal : Journal) (endpoint : ℕ) (sending : Sending) → Lawful start journal → is_dead (history_of start journal) endpoint ≡ false →
    view_behind start (sends (sent_behind journal endpoint sending None) ∷ journal) ≡ sending_in (view_behind start journal) (sent_behind journal endpoint sending None)
unfolding history_of
sent_behind_viewed start journal endpoint sending h alive =
    sent_viewed start (history_of start journal) (sent_behind journal endpoint sending None) (what_is_sent_waits start journal endpoint sending None h alive)

pub message_viewed : (start : Start) (journal : Journal) (frame : Frame) → Lawful start journal → admission (look_ups start (history_of start journal)) frame ≡ None → frame.kind ≡ kind.Message →
    view_behind start (sends (sent_behind journal frame.endpoint (message frame.bytes frame.handles) None) ∷ journal) ≡ sending_in (view_behind start journal) (sent_behind journal frame.endpoint (message frame.bytes frame.handles) None)
message_viewed start journal frame h admits is =
    sent_behind_viewed start journal frame.endpoint (message frame.bytes frame.handles) h
    (message_admitted start (history_of start journal) frame.endpoint frame.handles (refusal_of (look_ups start (history_of start journal)) frame kind.Message is admits)).alive

pub hang_up_viewed : (start : Start) (journal : Journal) (frame : Frame) → Lawful start journal → admission (look_ups start (history_of start journal)) frame ≡ None → frame.kind ≡ kind.Close →
    view_behind start (sends (sent_behind journal frame.endpoint hang_up None) ∷ journal) ≡ sending_in (view_behind start journal) (sent_behind journal frame.endpoint hang_up None)
hang_up_viewed start journal frame h admits is =
    sent_behind_viewed start journal frame.endpoint hang_up h
    (close_admitted start (history_of start journal) frame.endpoint frame.handles (refusal_of (look_ups start (history_of start journal)) frame kind.Close is admits)).alive

-- ---- what is served

-- the next token was never carried
next_uncarried : (past : History) (n : ℕ) → AreGiven past → n ≡ limit.FIRST_TOKEN + length (all_given past) → was_carried past n ≡ false
next_uncarried past n given e = false_from_ne_true (was_carried past n) (λ carried.
    let one = one_passes (λ (g : Given). g.token == n) (all_given past) (given.given n (omega (arith, e)) carried) in
    let low : one.0.token < limit.FIRST_TOKEN + length (all_given past) = All-contains (λ g. g.token < limit.FIRST_TOKEN + length (all_given past)) (all_given past) one.0 given.below one.1 in
    let at = eqb-true one.0.token n one.2 in
    omega (arith, low, at, e))

pub brings_new : Below → (start : Start) (journal : Journal) (sent : Sent) → IsStart start → Lawful start journal → head start (history_of start journal) sent.endpoint ≡ Some sent →
    BringsNew start (history_of start journal) (outcome_of start (history_of start journal) sent)
brings_new below start journal sent s h first =
    let past = history_of start journal in
    let kept = lawful_kept below start s journal h in
    let serving' = is_serving below start journal sent s (stepped start journal h) kept.sound first in
    record {
      unbound = λ new e b lives same.
          true≢false
          (sym (is_found (λ bound. bound.endpoint == new.endpoint) (living start past) b lives (eq-eqb b.endpoint new.endpoint (sym same)))
          ∙ kept.transit.unbound sent new.endpoint serving'.answered.waits (serving'.answered.bound_in new e));
      alive = λ new e. kept.transit.alive sent new.endpoint serving'.answered.waits (serving'.answered.bound_in new e);
      uncarried = λ given e. next_uncarried past given.token (lawful_given below start s journal h) (next_is_length past given.token (serving'.parts.token_next given e));
    }

pub same_length : (start : Start) (journal : Journal) → length (history_of start journal) ≡ length journal
unfolding history_of
same_length start [] = refl
same_length start (entry ∷ journal) = let rest = same_length start journal in omega (arith, rest)

-- what goes on behind it, at the next place
onward_viewed : (start : Start) (journal : Journal) (sent : Sent) (o : Option Forwarded) →
    ((forward : Forwarded) → o ≡ Some forward →
    waiting (history_of start (with_forward sent.place (serves sent ∷ journal) (Some forward)))
    ≡ waiting (history_of start (serves sent ∷ journal)) ++ sent_behind (serves sent ∷ journal) forward.endpoint (message forward.bytes (forward.object ∷ [])) (Some sent.place) ∷ []) →
    view_behind start (with_forward sent.place (serves sent ∷ journal) o) ≡ onward_in (view_behind start (serves sent ∷ journal)) sent o
unfolding history_of
onward_viewed start journal sent None queue = refl
onward_viewed start journal sent (Some forward) queue =
    let mid = serves sent ∷ journal in
    let place : length mid ≡ length (history_of start mid) = sym (same_length start mid) in
    sent_viewed start (history_of start mid) (sent_behind mid forward.endpoint (message forward.bytes (forward.object ∷ [])) (Some sent.place)) (queue forward refl)
    ∙ ap (λ (n : ℕ). sending_in (view_behind start mid) (record { place = n; endpoint = forward.endpoint; sending = message forward.bytes (forward.object ∷ []); origin = Some sent.place })) place

pub served_behind_viewed : Below → (start : Start) (journal : Journal) (sent : Sent) → IsStart start → Lawful start journal → head start (history_of start journal) sent.endpoint ≡ Some sent →
    view_behind start (after_serving start journal sent) ≡ then_in (view_behind start journal) sent
unfolding history_of
served_behind_viewed below start journal sent s h first =
    let past = history_of start journal in
    let view = view_behind start journal in
    let o = outcome_of start past sent in
    onward_viewed start journal sent o.forward
    (λ forward e. ap (λ (x : Option Forwarded). waiting (history_of start (with_forward sent.place (serves sent ∷ journal) x))) (sym e) ∙ what_goes_on_waits below start journal sent forward s h first e)
    ∙ ap (λ (v : View). onward_in v sent o.forward) (served_in_view start past sent (brings_new below start journal sent s h first))
    ∙ ap (λ (x : Outcome). onward_in (serving_in view sent (event_in view sent)) sent x.forward) (outcome_is_in start past sent)

-- ---- what is written

forward_writes : (start : Start) (journal : Journal) (origin : ℕ) (o : Option Forwarded) → output_of start (with_forward origin journal o) ≡ output_of start journal
unfolding history_of event_of
forward_writes start journal origin None = refl
forward_writes start journal origin (Some forward) = ap spellings (append-nil (frames_of start (history_of start journal)))

pub serving_writes : (start : Start) (journal : Journal) (sent : Sent) →
    output_of start (after_serving start journal sent) ≡ output_of start journal ++ spellings (frames_in (view_behind start journal) sent)
unfolding history_of event_of
serving_writes start journal sent =
    let past = history_of start journal in
    forward_writes start (serves sent ∷ journal) sent.place (outcome_of start past sent).forward
    ∙ flat_map-append spelling (frames_of start past) (frames_of_serving (trees_of start past) (living start past) (event_of start past (serves sent)))
    ∙ ap (λ (frames : List Frame). spellings (frames_of start past) ++ spellings frames) (frames_are start past sent)
