-- That whatever was sent fits a message.
use Rattle.std.proofs.Common.{◌≡◌, ℕ, ◌⊎◌, List, [], ◌∷◌, ◌++◌, Option, Some, None, Contains, refl, sym, subst, inl, inr, arith, length-append}
use Rattle.std.proofs.lemmas.List.Elements.{Contains-append_cases}
use Rattle.fidl_names.specs.declared.methods.Method.TheVariants as method
use Rattle.fidl_wire.specs.Headers.{header_bytes}
use Rattle.fidl_wire.specs.Layout.{fields, struct}
use Rattle.fidl_wire.specs.Names.{method_ordinal}
use Rattle.io_messages.specs.Asked as asks
use Rattle.io_messages.specs.Requests.{items_of, request_cells}
use Rattle.io_messages.specs.Writing.{plain_header, request_body}
use Rattle.path_walk.specs.Paths.{IsPath, text_of}
use Rattle.conn_rules.specs.Onward.{onward_bytes}
use Rattle.vfs_journal.specs.Entries.{Journal, Sent, hang_up, message, sends, serves}
use Rattle.vfs_journal.specs.History.{History, all_sent}
use Rattle.vfs_journal.specs.Lawful.{Lawful}
use Rattle.vfs_journal.specs.Lawful as lawful
use Rattle.vfs_journal.specs.Outcomes.{Forwarded}
use Rattle.vfs_journal.specs.Past.{behind, history_of}
use Rattle.vfs_journal.specs.Serving.{outcome_of}
use Rattle.vfs_journal.specs.Session.{sent_behind, with_forward}
use Rattle.vfs_journal.specs.Starts.{Start}
use Rattle.journal_laws.specs.Soundness.{IsStart}
use Rattle.journal_laws.proofs.Below.{Below}
use Rattle.journal_laws.proofs.Kept.{client_low, lawful_kept}
use Rattle.journal_laws.proofs.Members.{contains_cases, contains_here, contains_none}
use Rattle.journal_laws.proofs.Sound.{IsForwarded}
use Rattle.journal_laws.proofs.Steps.{refusals_change_nothing, sendings_wait_last, servings_take_effect}
use Rattle.std.proofs.lemmas.List.Elements.{Contains-append_right}
use Rattle.frame_laws.proofs.Outcomes.{IsSendable}
use Rattle.frame_laws.proofs.Replies.{FitsWord, IsMessage}
use Rattle.frame_laws.proofs.Sizes.{body_size}
use Rattle.journal_laws.proofs.Texts.{both_written, text_in_bytes}
use Rattle.frame_laws.proofs.Written.{body_is, header_written, length-header}

-- ---- an Open that goes on

onward_message : (flags : ℕ) (rest : List (List ℕ)) (object : ℕ) → IsPath (text_of rest) rest → FitsWord object → IsMessage (onward_bytes flags rest object)
onward_message flags rest object path low =
    let open' = asks.open_path (text_of rest) flags None object in
    let header = plain_header 0 (method_ordinal method.OpenPath) in
    let cells = request_cells method.OpenPath in
    let size = body_size (struct cells) (fields (items_of open')) refl in
    let short = path.short in
    record {
      bytes = both_written (header_bytes header) (request_body open') (header_written header)
          (body_is (struct cells) (fields (items_of open')) (text_in_bytes (text_of rest) path.utf8, (tt, ((tt, tt), (low, (tt, tt)))))).bytes;
      short = omega (arith, length-append (header_bytes header) (request_body open'), length-header header, size, short);
    }

forwarded_message : (start : Start) (one : Sent) → IsForwarded start one → IsSendable one.sending
forwarded_message start one h =
    subst IsSendable (sym h.sent) (onward_message h.flags h.rest h.object h.path (let low = client_low h.object h.client in omega (arith, low)))

-- ---- all that was sent

abbrev AllSent : History → Type 0
AllSent history = (one : Sent) → Contains (all_sent history) one → IsSendable one.sending

last_of : {X : Type 0} (xs : List X) (x y : X) → Contains (xs ++ x ∷ []) y → Contains xs y ⊎ (x ≡ y)
last_of {X} xs x y h = by_side (Contains-append_cases xs (x ∷ []) y h) where
  only : (x ≡ y) ⊎ Contains [] y → x ≡ y
  only (inl e) = e
  only (inr h) = absurd (contains_none y h)

  by_side : Contains xs y ⊎ Contains (x ∷ []) y → Contains xs y ⊎ (x ≡ y)
  by_side (inl h) = inl h
  by_side (inr h) = inr (only (contains_cases y x [] h))

one_more : (start : Start) (past : History) (new : Sent) → AllSent past → IsSendable new.sending → AllSent (behind start (sends new) past)
one_more start past new before is one there =
    by_side (last_of (all_sent past) new one (subst (λ (ones : List Sent). Contains ones one) (sendings_wait_last start past new).sent_last there)) where
      by_side : Contains (all_sent past) one ⊎ (new ≡ one) → IsSendable one.sending
      by_side (inl h) = before one h
      by_side (inr e) = subst (λ (s : Sent). IsSendable s.sending) e is

module _ (below : Below) (start : Start) (s : IsStart start) where
  onward_sent : (journal : Journal) (origin : ℕ) (o : Option Forwarded) → Lawful start (with_forward origin journal o) → AllSent (history_of start journal) → AllSent (history_of start (with_forward origin journal o))
  unfolding history_of
  onward_sent journal origin None h before = before
  onward_sent journal origin (Some f) h before =
      let past = history_of start journal in
      let new = sent_behind journal f.endpoint (message f.bytes (f.object ∷ [])) (Some origin) in
      let there : Contains (all_sent (behind start (sends new) past)) new =
      subst (λ (ones : List Sent). Contains ones new) (sym (sendings_wait_last start past new).sent_last) (Contains-append_right (all_sent past) (new ∷ []) new (contains_here new [])) in
      one_more start past new before (forwarded_message start new ((lawful_kept below start s (sends new ∷ journal) h).sound.right new there).by_origin)

  pub sent_messages : (journal : Journal) → Lawful start journal → AllSent (history_of start journal)
  unfolding history_of
  sent_messages journal lawful.begun = λ one there. absurd (contains_none one there)
  sent_messages journal (lawful.refused earlier frame why h is admits) = λ one there.
      sent_messages earlier h one (subst (λ (ones : List Sent). Contains ones one) (refusals_change_nothing start (history_of start earlier) frame.endpoint why).sent there)
  sent_messages journal (lawful.sent earlier frame h is kind admits) =
      one_more start (history_of start earlier) (sent_behind earlier frame.endpoint (message frame.bytes frame.handles) None) (sent_messages earlier h)
      (record { bytes = is.bytes; short = is.shape.few_bytes })
  sent_messages journal (lawful.closed earlier frame h is kind admits) =
      one_more start (history_of start earlier) (sent_behind earlier frame.endpoint hang_up None) (sent_messages earlier h) tt
  sent_messages journal (lawful.served earlier entry h first) =
      onward_sent (serves entry ∷ earlier) entry.place (outcome_of start (history_of start earlier) entry).forward (lawful.served earlier entry h first)
      (λ one there. sent_messages earlier h one (subst (λ (ones : List Sent). Contains ones one) (servings_take_effect start (history_of start earlier) entry).sent_same there))
