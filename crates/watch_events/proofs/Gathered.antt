-- What a new watcher is told, as it is gathered name by name.
use Rattle.std.proofs.Common.{◌≡◌, ◌+◌, ℕ, Bool, true, false, List, [], ◌∷◌, ◌++◌, length, map, refl, sym, ap, subst, ◌∙◌}
use Rattle.std.specs.Prelude.{nat_le, if◌then◌else◌}
use Rattle.std.proofs.lemmas.List.{map-append}
use Rattle.fidl_names.specs.declared.limits.TheConstants as limit
use Rattle.path_walk.specs.Names.{dot}
use Rattle.link_frames.specs.Frames.{Frame, spelling}
use Rattle.node_graph.specs.Graph.{Listed}
use Rattle.watch_events.specs.Events.{event_bytes}
use Rattle.watch_events.specs.Messages.{asks_for, existing, first_frames, gathered, idle, snapshot, watch_frame}
use Rattle.watch_events.specs.Steps.{idle_told, names_told}
use Rattle.watch_events.proofs.Told.{IsLeft, length-event, one_less}

abbrev pub piece_of : Listed → List ℕ
piece_of one = event_bytes existing one.name

-- the frames with what was begun and with these names
abbrev pub frames_with : ℕ → List ℕ → List Listed → List Frame
frames_with endpoint begun names = map (watch_frame endpoint) (gathered begun (map (event_bytes existing) (map (λ one. one.name) names)))

-- one name more is in the message, or a new one begins with it
pub one_gathered : (all : List Frame) (endpoint : ℕ) (begun roomy next : List ℕ) (one : Listed) (names : List Listed) (before now after : List ℕ) → IsLeft all (frames_with endpoint begun (one ∷ names)) before now
    → (nat_le (length begun + (2 + length one.name)) limit.MAX_CHUNK ≡ true → (roomy ≡ begun) × (after ≡ now))
    → (nat_le (length begun + (2 + length one.name)) limit.MAX_CHUNK ≡ false → (roomy ≡ []) × (after ≡ now ++ spelling (watch_frame endpoint begun)))
    → next ≡ roomy ++ piece_of one → IsLeft all (frames_with endpoint next names) before after
one_gathered all endpoint begun roomy next one names before now after was fits full is =
    let size : 2 + length one.name ≡ length (piece_of one) = sym (length-event existing one.name) in
    let fills : ℕ → Bool = λ n. nat_le (length begun + n) limit.MAX_CHUNK in
    by_test (fills (length (piece_of one))) refl
    (subst (λ (n : ℕ). fills n ≡ true → (roomy ≡ begun) × (after ≡ now)) size fits)
    (subst (λ (n : ℕ). fills n ≡ false → (roomy ≡ []) × (after ≡ now ++ spelling (watch_frame endpoint begun))) size full) where
      by_test : (b : Bool) → nat_le (length begun + length (piece_of one)) limit.MAX_CHUNK ≡ b → (b ≡ true → (roomy ≡ begun) × (after ≡ now)) → (b ≡ false → (roomy ≡ []) × (after ≡ now ++ spelling (watch_frame endpoint begun)))
          → IsLeft all (frames_with endpoint next names) before after
      by_test true test fits full =
          let h = fits refl in
          let same : frames_with endpoint begun (one ∷ names) ≡ frames_with endpoint (begun ++ piece_of one) names = rw test refl in
          let message : begun ++ piece_of one ≡ next = ap (λ (bytes : List ℕ). bytes ++ piece_of one) (sym h.0) ∙ sym is in
          subst (λ (bytes : List ℕ). IsLeft all (frames_with endpoint next names) before bytes) (sym h.1)
          (subst (λ (frames : List Frame). IsLeft all frames before now) (same ∙ ap (λ (bytes : List ℕ). frames_with endpoint bytes names) message) was)
      by_test false test fits full =
          let h = full refl in
          let same : frames_with endpoint begun (one ∷ names) ≡ watch_frame endpoint begun ∷ frames_with endpoint (piece_of one) names = rw test refl in
          let message : piece_of one ≡ next = ap (λ (bytes : List ℕ). bytes ++ piece_of one) (sym h.0) ∙ sym is in
          subst (λ (bytes : List ℕ). IsLeft all (frames_with endpoint bytes names) before after) message
          (one_less all (frames_with endpoint (piece_of one) names) (watch_frame endpoint begun) before now after (subst (λ (frames : List Frame). IsLeft all frames before now) same was) h.1)

abbrev pub names_of : List Listed → List (List ℕ)
names_of names = map (λ one. one.name) names

-- all that is told of names where the mask asks for them
pub told_with_dot : (endpoint mask : ℕ) (names : List Listed) → asks_for mask existing ≡ true → names_told endpoint mask (names_of names) ≡ frames_with endpoint (event_bytes existing dot) names
told_with_dot endpoint mask names asks = rw asks refl

-- what is told at first is the names and then that these were all
pub both_told : (endpoint mask : ℕ) (names : List (List ℕ)) → names_told endpoint mask names ++ idle_told endpoint mask ≡ first_frames endpoint mask names
both_told endpoint mask names =
    sym (map-append (watch_frame endpoint) (if asks_for mask existing then snapshot names else []) (if asks_for mask idle then event_bytes idle [] ∷ [] else []))
