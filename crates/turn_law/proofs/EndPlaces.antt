-- In the journal the ends of mounts stay as they were at the start, and what is served there is an Open that touches its object alone.
use Rattle.std.proofs.Common.{◌≡◌, ℕ, ◌<◌, ◌^◌, ◌==◌, ◌⊎◌, Bool, true, false, List, [], ◌∷◌, Option, Some, None, Contains, if◌then◌else◌, refl, sym, ap, ◌∙◌, subst, inl, inr, arith}
use Rattle.std.specs.Option.{option_map, option_map_or}
use Rattle.std.proofs.lemmas.Bool.{eqb-true, false_from_ne_true, true≢false}
use Rattle.fidl_names.specs.HandleNumber.{is_client}
use Rattle.link_admission.specs.Admission.{admission}
use Rattle.link_frames.specs.Frames.{Frame}
use Rattle.link_admission.specs.Numbering.{among}
use Rattle.io_messages.specs.declared.protocols.Protocol.TheVariants as protocol
use Rattle.conn_rules.specs.Onward.{onward_bytes}
use Rattle.conn_rules.specs.Births.{Position, fresh}
use Rattle.vfs_journal.specs.Entries.{Journal, Sending, Sent, endpoints_in, message, refuses}
use Rattle.vfs_journal.specs.History.{History, bound_at, position_of}
use Rattle.vfs_journal.specs.Lawful.{Lawful}
use Rattle.vfs_journal.specs.Outcomes.{Forwarded, Outcome}
use Rattle.vfs_journal.specs.Past.{history_of}
use Rattle.vfs_journal.specs.Serving.{moment_of, outcome_at, outcome_of, outcome_of_sending}
use Rattle.vfs_journal.specs.Session.{after_serving, head}
use Rattle.vfs_journal.specs.Starts.{Bound, Start}
use Rattle.vfs_journal.specs.View.{View, at_in, moved, with_position}
use Rattle.journal_laws.specs.Soundness.{IsStart}
use Rattle.journal_laws.specs.Viewing.{view_behind}
use Rattle.journal_laws.proofs.Among.{carried_is}
use Rattle.journal_laws.proofs.Below.{Below}
use Rattle.journal_laws.proofs.Kept.{client_low, lawful_kept}
use Rattle.journal_laws.proofs.Served.{Dies, IsAnswered, how_it_dies}
use Rattle.journal_laws.proofs.Served as dies
use Rattle.journal_laws.proofs.Sound.{ByOrigin, IsForwarded, view}
use Rattle.journal_laws.proofs.ViewLaws.{hang_up_viewed, message_viewed}
use Rattle.journal_laws.proofs.ViewParts.{at_is}
use Rattle.journal_laws.proofs.ViewSteps.{refused_viewed}
use Rattle.turn_law.specs.Steps.{AreSteps, Step, frames_in, journal_of}
use Rattle.turn_law.specs.Told.{newborn, table_at_start, table_of}
use Rattle.turn_law.proofs.Arrivals.{life_first}
use Rattle.turn_law.proofs.BySteps.{StepsGoOn, by_steps}
use Rattle.turn_law.proofs.Forwards.{IsOnward}
use Rattle.turn_law.proofs.MountEnds.{TouchesObject, end_at_start, moved_fresh, onward_touched}
use Rattle.turn_law.proofs.QuietSessions.{Heads, heads}
use Rattle.turn_law.proofs.ServedPast.{at_by, dying_of, served_past}
use Rattle.turn_law.proofs.Touching.{start_named}

-- who is bound at the end of a mount, and where it stands, is as at the start
pub record EndsStand (start : Start) (journal : Journal) : Type 0 where
  pub at : (n : ℕ) → is_client n ≡ false → at_in (view_behind start journal) n ≡ (table_at_start start).life n

same_view : (start : Start) (journal now : Journal) → ((n : ℕ) → at_in (view_behind start now) n ≡ at_in (view_behind start journal) n) → EndsStand start journal → EndsStand start now
same_view start journal now same h = record { at = λ n none. same n ∙ h.at n none }

-- ---- what is served there

pair_same : {x y : Bound × Position} → Some x ≡ Some y → x ≡ y
pair_same e = cc

-- what waits on no client's endpoint went on behind a mount
pub forwarded_there : Below → (start : Start) (journal : Journal) (one : Sent) → IsStart start → Lawful start journal → Heads start journal one → is_client one.endpoint ≡ false → IsForwarded start one
forwarded_there below start journal one s lawful first none =
    let right = (lawful_kept below start s journal lawful).sound.right one first.was_sent in
    by_origin one.origin right.by_origin where
      by_origin : (o : Option ℕ) → ByOrigin start (view start (history_of start journal)).sent one o → IsForwarded start one
      by_origin None c = absurd (true≢false (sym c.client ∙ none))
      by_origin (Some origin) f = f

-- as an Open, on a directory's connection at its beginning
pub record IsEndServed (start : Start) (journal : Journal) (one : Sent) (bound : Bound) : Type 0 where
  pub forwarded : IsForwarded start one
  pub onward : IsOnward (record { endpoint = one.endpoint; bytes = onward_bytes forwarded.flags forwarded.rest forwarded.object; object = forwarded.object })
  pub lives : (table_at_start start).life one.endpoint ≡ Some (bound, position_of (history_of start journal) bound.endpoint)
  pub stands : position_of (history_of start journal) bound.endpoint ≡ fresh
  pub touches : TouchesObject fresh forwarded.object (outcome_of start (history_of start journal) one)

pub end_served : Below → (start : Start) (journal : Journal) (one : Sent) (bound : Bound) → IsStart start → Lawful start journal → Heads start journal one → is_client one.endpoint ≡ false → EndsStand start journal →
    bound_at start (history_of start journal) one.endpoint ≡ Some bound → IsEndServed start journal one bound
end_served below start journal one bound s lawful first none stands at = record { forwarded = f; onward = onward'; lives = lives'; stands = born.1; touches = touched } where
  past : History
  past = history_of start journal

  f : IsForwarded start one
  f = forwarded_there below start journal one s lawful first none

  onward' : IsOnward (record { endpoint = one.endpoint; bytes = onward_bytes f.flags f.rest f.object; object = f.object })
  onward' = record { flags = f.flags; rest = f.rest; bytes = refl; path = f.path; small = f.small; low = let low = client_low f.object f.client in omega (arith, low) }

  lives' : (table_at_start start).life one.endpoint ≡ Some (bound, position_of past bound.endpoint)
  lives' = sym (stands.at one.endpoint none) ∙ at_is start past one.endpoint ∙ ap (option_map (with_position past)) at

  born : (bound.birth.protocol ≡ protocol.Directory) × (position_of past bound.endpoint ≡ fresh)
  born = end_at_start start one.endpoint (bound, position_of past bound.endpoint) s lives'

  whole : outcome_of start past one ≡ outcome_of_sending (moment_of start past bound) (message (onward_bytes f.flags f.rest f.object) (f.object ∷ []))
  whole = ap (outcome_at start past one) at ∙ ap (λ (x : Sending). outcome_of_sending (moment_of start past bound) x) f.sent

  touched : TouchesObject fresh f.object (outcome_of start past one)
  touched =
      subst (TouchesObject fresh f.object) (sym whole)
      (subst (λ (p : Position). TouchesObject p f.object (outcome_of_sending (moment_of start past bound) (message (onward_bytes f.flags f.rest f.object) (f.object ∷ [])))) born.1
      (onward_touched below (moment_of start past bound) (record { endpoint = one.endpoint; bytes = onward_bytes f.flags f.rest f.object; object = f.object }) born.0 onward'))

-- ---- a serving

pub dies_client : (start : Start) (past : History) (one : Sent) (o : Outcome) (n : ℕ) → IsAnswered (view start past) one o → among n (dying_of past one o) ≡ true → is_client n ≡ true
dies_client start past one o n answered h = by_death (how_it_dies (view start past) one o n h) where
  by_end : ((n ≡ one.endpoint) × (is_client n ≡ true)) ⊎ (among n (endpoints_in one) ≡ true) → is_client n ≡ true
  by_end (inl own) = own.1
  by_end (inr carried) = (carried_is one n carried).0

  by_death : Dies (view start past) one o n → is_client n ≡ true
  by_death (dies.ended e) = by_end (answered.ends_in n e)
  by_death (dies.carried c left) = (carried_is one n c).0
  by_death (dies.dropped x there apart on c) = (carried_is x n c).0

unbound_there : (n : ℕ) (o : Option Bound) → ((b : Bound) → o ≡ Some b → is_client b.endpoint ≡ true) → is_client n ≡ false → option_map_or (λ bound. bound.endpoint == n) o false ≡ false
unbound_there n None h none = refl
unbound_there n (Some b) h none = false_from_ne_true (b.endpoint == n) (λ e. true≢false (sym (h b refl) ∙ ap is_client (eqb-true b.endpoint n e) ∙ none))

serving_stands : Below → (start : Start) (journal : Journal) (one : Sent) → IsStart start → Lawful start journal → head start (history_of start journal) one.endpoint ≡ Some one → EndsStand start journal → EndsStand start (after_serving start journal one)
serving_stands below start journal one s lawful first h = record { at = stands } where
  past : History
  past = history_of start journal

  o : Outcome
  o = outcome_of start past one

  heads' : Heads start journal one
  heads' = heads below start journal one s lawful first

  stays_at : (n : ℕ) (pair : Bound × Position) → is_client n ≡ false → at_in (view_behind start journal) n ≡ Some pair → pair.0.endpoint ≡ one.endpoint → pair.1 ≡ o.position
  stays_at n pair none lives at =
      let there = sym (h.at n none) ∙ lives in
      let here : one.endpoint ≡ n = sym at ∙ (start_named start).own n pair there in
      let served = end_served below start journal one heads'.serving'.at s lawful heads' (ap is_client here ∙ none) h heads'.serving'.bound in
      (end_at_start start n pair s there).1 ∙ sym served.touches.stands

  stands : (n : ℕ) → is_client n ≡ false → at_in (view_behind start (after_serving start journal one)) n ≡ (table_at_start start).life n
  stands n none =
      (served_past below start journal one s lawful first).at n
      ∙ ap (λ (b : Bool). if b then None else if option_map_or (λ bound. bound.endpoint == n) o.bound false then option_map newborn o.bound else option_map (moved one.endpoint o.position) (at_in (view_behind start journal) n))
      (false_from_ne_true (among n (dying_of past one o)) (λ e. true≢false (sym (dies_client start past one o n heads'.serving'.answered e) ∙ none)))
      ∙ ap (λ (b : Bool). if b then option_map newborn o.bound else option_map (moved one.endpoint o.position) (at_in (view_behind start journal) n))
      (unbound_there n o.bound (λ b e. (carried_is one b.endpoint (heads'.serving'.answered.bound_in b e)).0) none)
      ∙ moved_fresh one.endpoint o.position (at_in (view_behind start journal) n) (λ pair lives at. stays_at n pair none lives at)
      ∙ h.at n none

-- ---- all steps

ends_go_on : Below → (start : Start) → IsStart start → StepsGoOn start (λ journal frames. EndsStand start journal)
unfolding history_of table_of
ends_go_on below start s = record {
  begins = record { at = λ n none. at_is start [] n ∙ sym (life_first start n) };
  refuses_on = λ journal frames frame why lawful is e h.
      same_view start journal (refuses frame.endpoint why ∷ journal) (λ n. ap (λ (v : View). at_in v n) (refused_viewed start (history_of start journal) frame.endpoint why)) h;
  messages_on = λ journal frames frame lawful is e none h. same_view start journal _ (λ n. ap (λ (v : View). at_in v n) (message_viewed start journal frame lawful none e)) h;
  closes_on = λ journal frames frame lawful is e none h. same_view start journal _ (λ n. ap (λ (v : View). at_in v n) (hang_up_viewed start journal frame lawful none e)) h;
  serves_on = λ journal frames one lawful first h. serving_stands below start journal one s lawful first h;
}

pub ends_stand : Below → (start : Start) (steps : List Step) → IsStart start → AreSteps start steps → EndsStand start (journal_of start steps)
ends_stand below start steps s can = by_steps start (λ journal frames. EndsStand start journal) (ends_go_on below start s) steps can
