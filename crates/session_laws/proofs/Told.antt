-- What one watcher is told among all that is told.
use Rattle.std.proofs.Common.{◌≡◌, ℕ, ◌==◌, ◌&&◌, ◌⊎◌, Bool, true, false, cond, List, [], ◌∷◌, ◌++◌, filter, map, AllPairs, Contains, refl, sym, ap, ◌∙◌, subst, inl, inr, eq-eqb}
use Rattle.std.proofs.Math.Bool.{and_comm}
use Rattle.std.proofs.lemmas.Bool.{ne_eqb}
use Rattle.std.proofs.lemmas.List.Elements.{All-contains, All-weaker, filter-append, filter_agree}
use Rattle.link_frames.specs.Frames.{Frame}
use Rattle.conn_rules.specs.Answers.{Happening}
use Rattle.conn_rules.specs.Answers as news
use Rattle.path_walk.specs.Names.{dot}
use Rattle.watch_events.specs.Events.{bytes_of, event_bytes}
use Rattle.watch_events.specs.Messages.{Watcher, added, asks_for, deleted, removed, told, watch_frame}
use Rattle.vfs_journal.specs.History.{watches_node}
use Rattle.vfs_journal.specs.Starts.{Bound}
use Rattle.vfs_journal.specs.Watching.{told_as, told_by, told_frames, told_of, watcher_of}
use Rattle.journal_laws.specs.Soundness.{OtherEndpoint}
use Rattle.journal_laws.proofs.Filters.{all_of, none_kept}
use Rattle.journal_laws.proofs.Lists.{filter-filter, pairs-head, pairs-tail}
use Rattle.journal_laws.proofs.Members.{contains_cases, contains_none}
use Rattle.session_laws.specs.Sight.{is_message_on, is_told}
use Rattle.session_laws.proofs.Messages.{IsOther, NoneOn}

-- ---- filters

filter_mapped : {X Y : Type 0} (p : Y → Bool) (f : X → Y) (xs : List X) → filter p (map f xs) ≡ map f (filter (λ x. p (f x)) xs)
filter_mapped p f [] = refl
filter_mapped {X} {Y} p f (x ∷ xs) = by_test (p (f x)) (filter_mapped p f xs) where
  by_test : (b : Bool) → filter p (map f xs) ≡ map f (filter (λ y. p (f y)) xs) →
      cond b (f x ∷ filter p (map f xs)) (filter p (map f xs)) ≡ map f (cond b (x ∷ filter (λ y. p (f y)) xs) (filter (λ y. p (f y)) xs))
  by_test true rest = ap (λ ys. f x ∷ ys) rest
  by_test false rest = rest

filter_swap : {X : Type 0} (p q : X → Bool) (xs : List X) → filter p (filter q xs) ≡ filter q (filter p xs)
filter_swap p q xs =
    filter-filter p q xs ∙ filter_agree (λ x. q x && p x) (λ x. p x && q x) (λ x. and_comm (q x) (p x)) xs ∙ sym (filter-filter q p xs)

-- ---- who is on one endpoint

abbrev pub is_at : ℕ → Bound → Bool
is_at endpoint bound = bound.endpoint == endpoint

none_at : (endpoint : ℕ) (xs : List Bound) → ((x : Bound) → Contains xs x → IsOther endpoint x.endpoint) → filter (is_at endpoint) xs ≡ []
none_at endpoint xs other = none_kept (is_at endpoint) xs (all_of (λ x. is_at endpoint x ≡ false) xs other)

-- where endpoints are apart, one alone is on the endpoint of a member
pub one_at : (xs : List Bound) (one : Bound) → AllPairs OtherEndpoint xs → Contains xs one → filter (is_at one.endpoint) xs ≡ one ∷ []
one_at [] one apart there = absurd (contains_none one there)
one_at (x ∷ xs) one apart there = by_side (one_at xs one (pairs-tail OtherEndpoint x xs apart)) (contains_cases one x xs there) where
  others : filter (is_at x.endpoint) xs ≡ []
  others =
      none_kept (is_at x.endpoint) xs
      (All-weaker (OtherEndpoint x) (λ y. is_at x.endpoint y ≡ false) (λ y other. ne_eqb y.endpoint x.endpoint (λ e. other (sym e))) xs (pairs-head OtherEndpoint x xs apart))

  by_side : (Contains xs one → filter (is_at one.endpoint) xs ≡ one ∷ []) → (x ≡ one) ⊎ Contains xs one → filter (is_at one.endpoint) (x ∷ xs) ≡ one ∷ []
  by_side later (inl e) =
      subst (λ (y : Bound). filter (is_at y.endpoint) (x ∷ xs) ≡ y ∷ []) e
      (ap (λ (b : Bool). cond b (x ∷ filter (is_at x.endpoint) xs) (filter (is_at x.endpoint) xs)) (eq-eqb x.endpoint x.endpoint refl) ∙ ap (λ ys. x ∷ ys) others)
  by_side later (inr h) =
      let other = All-contains (OtherEndpoint x) xs one (pairs-head OtherEndpoint x xs apart) h in
      ap (λ (b : Bool). cond b (x ∷ filter (is_at one.endpoint) xs) (filter (is_at one.endpoint) xs)) (ne_eqb x.endpoint one.endpoint other) ∙ later h

-- ---- what those are told who are on one endpoint

told_at : (endpoint : ℕ) (living : List Bound) (server directory event : ℕ) (name : List ℕ) →
    filter (is_message_on endpoint) (told_of living server directory event name) ≡ told_of (filter (is_at endpoint) living) server directory event name
told_at endpoint living server directory event name =
    let watching = filter (watches_node server directory) living in
    let asks : Watcher → Bool = λ watcher. asks_for watcher.mask event in
    let frame : Watcher → Frame = λ watcher. watch_frame watcher.endpoint (event_bytes event name) in
    filter_mapped (is_message_on endpoint) frame (filter asks (map watcher_of watching))
    ∙ ap (map frame)
    (filter_swap (λ watcher. watcher.endpoint == endpoint) asks (map watcher_of watching)
    ∙ ap (filter asks)
    (filter_mapped (λ watcher. watcher.endpoint == endpoint) watcher_of watching
    ∙ ap (map watcher_of) (filter_swap (is_at endpoint) (watches_node server directory) living)))

happened_at : (endpoint : ℕ) (living : List Bound) (server : ℕ) (happening : Happening) →
    filter (is_message_on endpoint) (told_by living server happening) ≡ told_by (filter (is_at endpoint) living) server happening
happened_at endpoint living server (news.removed name) = told_at endpoint living server name.directory removed name.name
happened_at endpoint living server (news.added name) = told_at endpoint living server name.directory added name.name
happened_at endpoint living server (news.deleted directory) = told_at endpoint living server directory deleted dot

frames_at : (endpoint : ℕ) (living : List Bound) (server : ℕ) (happenings : List Happening) →
    filter (is_message_on endpoint) (told_frames living server happenings) ≡ told_frames (filter (is_at endpoint) living) server happenings
frames_at endpoint living server [] = refl
frames_at endpoint living server (happening ∷ later) =
    filter-append (is_message_on endpoint) (told_by living server happening) (told_frames living server later)
    ∙ ap (λ frames. frames ++ filter (is_message_on endpoint) (told_frames living server later)) (happened_at endpoint living server happening)
    ∙ ap (λ frames. told_by (filter (is_at endpoint) living) server happening ++ frames) (frames_at endpoint living server later)

-- ---- nobody, and one

nobody : (server : ℕ) (happenings : List Happening) → told_frames [] server happenings ≡ []
nobody server [] = refl
nobody server (news.removed name ∷ later) = nobody server later
nobody server (news.added name ∷ later) = nobody server later
nobody server (news.deleted directory ∷ later) = nobody server later

one_told : (watcher : Bound) (event : ℕ) (name : List ℕ) (b : Bool) →
    told (map watcher_of (cond b (watcher ∷ []) [])) event name ≡ cond (b && asks_for watcher.mask event) (watch_frame watcher.endpoint (event_bytes event name) ∷ []) []
one_told watcher event name false = refl
one_told watcher event name true = by_test (asks_for watcher.mask event) where
  by_test : (b : Bool) →
      map (λ (w : Watcher). watch_frame w.endpoint (event_bytes event name)) (cond b (watcher_of watcher ∷ []) []) ≡ cond b (watch_frame watcher.endpoint (event_bytes event name) ∷ []) []
  by_test true = refl
  by_test false = refl

abbrev frame_for : Bound → Happening → Frame
frame_for watcher happening = watch_frame watcher.endpoint (bytes_of (told_as happening))

one_happening : (watcher : Bound) (server : ℕ) (happening : Happening) → told_by (watcher ∷ []) server happening ≡ cond (is_told server watcher happening) (frame_for watcher happening ∷ []) []
one_happening watcher server (news.removed name) = one_told watcher removed name.name (watches_node server name.directory watcher)
one_happening watcher server (news.added name) = one_told watcher added name.name (watches_node server name.directory watcher)
one_happening watcher server (news.deleted directory) = one_told watcher deleted dot (watches_node server directory watcher)

-- the messages for events
abbrev pub messages_for : ℕ → Bound → List Happening → List Frame
messages_for server watcher happenings = map (watch_frame watcher.endpoint) (map bytes_of (map told_as (filter (is_told server watcher) happenings)))

one_watcher : (watcher : Bound) (server : ℕ) (happenings : List Happening) → told_frames (watcher ∷ []) server happenings ≡ messages_for server watcher happenings
one_watcher watcher server [] = refl
one_watcher watcher server (happening ∷ later) =
    ap (λ frames. frames ++ told_frames (watcher ∷ []) server later) (one_happening watcher server happening)
    ∙ ap (λ frames. cond (is_told server watcher happening) (frame_for watcher happening ∷ []) [] ++ frames) (one_watcher watcher server later)
    ∙ by_test (is_told server watcher happening) where
      by_test : (b : Bool) → cond b (frame_for watcher happening ∷ []) [] ++ messages_for server watcher later
          ≡ map (watch_frame watcher.endpoint) (map bytes_of (map told_as (cond b (happening ∷ filter (is_told server watcher) later) (filter (is_told server watcher) later))))
      by_test true = refl
      by_test false = refl

-- ---- the whole

-- there is no message on an endpoint where nobody lives
pub told_none : (endpoint : ℕ) (living : List Bound) (server : ℕ) (happenings : List Happening) → ((bound : Bound) → Contains living bound → IsOther endpoint bound.endpoint) → NoneOn endpoint (told_frames living server happenings)
told_none endpoint living server happenings other =
    frames_at endpoint living server happenings ∙ ap (λ ones. told_frames ones server happenings) (none_at endpoint living other) ∙ nobody server happenings

-- and who lives is told what it asks for
pub told_living : (living : List Bound) (watcher : Bound) (server : ℕ) (happenings : List Happening) → AllPairs OtherEndpoint living → Contains living watcher →
    filter (is_message_on watcher.endpoint) (told_frames living server happenings) ≡ messages_for server watcher happenings
told_living living watcher server happenings apart there =
    frames_at watcher.endpoint living server happenings ∙ ap (λ ones. told_frames ones server happenings) (one_at living watcher apart there) ∙ one_watcher watcher server happenings
