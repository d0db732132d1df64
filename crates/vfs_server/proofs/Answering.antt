-- What is done with what a connection gives is what the outcome of its request says.
use Rattle.std.proofs.Common.{◌≡◌, ◌≢◌, ◌∙◌, ℕ, ◌++◌, List, true, false, All, Contains, Option, Some, None, Result, Ok, Err, IfOk, IfSome, [], append-nil, refl, sym, ap, subst, rules}
use Rattle.std.specs.Result.{OnErr, OnOk}
use Rattle.std.specs.Option.{option_map, option_map_or}
use Rattle.std.proofs.lemmas.List.Elements.{All-nil}
use Rattle.fidl_wire.specs.Written.{Written}
use Rattle.link_frames.specs.Frames.{Frame, spellings}
use Rattle.fidl_names.specs.declared.methods.Handle.{Handle}
use Rattle.fidl_names.specs.declared.methods.Handle.TheVariants.{Endpoint}
use Rattle.request_reader.specs.Laws.{Carries}
use Rattle.vfs_journal.specs.Starts.{Bound}
use Rattle.io_messages.specs.Asked.{Asked, method_of}
use Rattle.io_messages.specs.declared.protocols.Protocol.{Protocol}
use Rattle.io_messages.specs.declared.protocols.Protocol.TheVariants as protocol
use Rattle.io_messages.specs.declared.requests.RequestFault.{RequestFault}
use Rattle.io_messages.specs.Protocols.{has_method}
use Rattle.node_graph.specs.declared.nodes.NodeRef.{NodeRef}
use Rattle.conn_rules.specs.declared.births.Birth as code
use Rattle.node_graph.specs.declared.nodes.NodeKind.{NodeKind}
use Rattle.node_graph.specs.Graph.{Kept, StandsFor, number_of}
use Rattle.node_graph.specs.Tree.{Tree}
use Rattle.conn_rules.specs.Acts.{act_of}
use Rattle.conn_rules.specs.declared.births.Room.{Room}
use Rattle.conn_rules.specs.Answers.{Act, Answer, Happening, nothing_told, replies, closes, binds, watches, forwards, refuses, ends, hangs_up, silent}
use Rattle.conn_rules.specs.Births.{Connection}
use Rattle.conn_rules.specs.Contexts.{context_of}
use Rattle.conn_rules.specs.Shared.{CanBeBound, is_spoken_at}
use Rattle.vfs_journal.specs.Outcomes as outcomes
use Rattle.vfs_journal.specs.Outcomes.{Asker, frames_of}
use Rattle.vfs_journal.specs.Output.{Begins}
use Rattle.vfs_journal.specs.Serving.{Moment, fault_answer, fault_txid, object_of, outcome_of_read}
use Rattle.vfs_server.specs.declared.asking.Asking.{Asking}
use Rattle.vfs_server.specs.declared.deed.Deed.{Deed}
use Rattle.vfs_server.specs.declared.deed.Deed.TheVariants as deeds
use Rattle.vfs_server.specs.Given.{Given}
use Rattle.vfs_server.specs.Given as given
use Rattle.vfs_server.specs.Effects.{Effects, effects_done, no_effects}
use Rattle.vfs_server.specs.Kept.{Tokens}
use Rattle.vfs_server.specs.Servers.{bound_with}
use Rattle.vfs_server.specs.Steps.{Acts, Answers, Done, BindsConnection, CanTell, DoesFault, DoesGiven, IsAskedAt, IsGiven, IsOnDirectory, MayWatch, NamesAsThere, Takes, act_asked, asker_with, effects_by, effects_given, frames_given, names_in, room_for, token_given}
use Rattle.vfs_server.specs.Telling.{IsShort}
use Rattle.session_start.proofs.NamedNodes.{named_kind}
use Rattle.vfs_server.proofs.Carried.{looked_up}
use Rattle.vfs_server.proofs.Taken.{is_taken, taken_came, taking_alike}
use Rattle.vfs_server.proofs.Handed.{token_is}
use Rattle.vfs_server.proofs.Acting.{CanAct, conn_acts}
use Rattle.vfs_server.proofs.Allowed.{bound_has_room, onward_is_mounted, token_of_directory, watch_has_room}

-- ---- answers

frames_are : (endpoint server node txid object : ℕ) (answer : Answer) (what : Given) (out : Written) → IsGiven answer txid what out →
    frames_of (asker_with endpoint server node txid object) answer ≡ frames_given endpoint object what out
frames_are endpoint server node txid object (replies a) what out h = rw (h.0, h.1.bytes, h.1.handles) refl
frames_are endpoint server node txid object closes what out h = rw (h.0, h.1.bytes, h.1.handles) refl
frames_are endpoint server node txid object (binds birth announced) what out h = rw (h.0.1, ← h.0.2.same, ← h.0.2.told) refl
frames_are endpoint server node txid object (watches mask) what out h = rw (h.0, h.1.bytes, h.1.handles) refl
frames_are endpoint server node txid object (forwards mount flags rest) what out h = rw h.0 refl
frames_are endpoint server node txid object (refuses status) what out h = rw h.0 refl
frames_are endpoint server node txid object (ends status) what out h = rw h.0 refl
frames_are endpoint server node txid object hangs_up what out h = absurd h
frames_are endpoint server node txid object silent what out h = absurd h

-- the token that an answer gives is the one in its reply
effects_are : (endpoint server node txid object : ℕ) (answer : Answer) (what : Given) (out : Written) → IsGiven answer txid what out →
    effects_by (asker_with endpoint server node txid object) answer ≡ effects_given endpoint server node object what out.handles
effects_are endpoint server node txid object (replies a) what out h =
    ap (λ (given : Option outcomes.Given). record no_effects { token = given }) (token_is endpoint server node txid object a ∙ ap (token_given endpoint server node) (sym h.1.handles))
    ∙ ap (λ (one : Given). effects_given endpoint server node object one out.handles) (sym h.0)
effects_are endpoint server node txid object closes what out h = rw h.0 refl
effects_are endpoint server node txid object (binds birth announced) what out h = rw (h.0.1, ← h.0.2.same) refl
effects_are endpoint server node txid object (watches mask) what out h = rw h.0 refl
effects_are endpoint server node txid object (forwards mount flags rest) what out h = rw h.0 refl
effects_are endpoint server node txid object (refuses status) what out h = rw h.0 refl
effects_are endpoint server node txid object (ends status) what out h = rw h.0 refl
effects_are endpoint server node txid object hangs_up what out h = absurd h
effects_are endpoint server node txid object silent what out h = absurd h

-- an Open that goes on writes nothing
pub goes_on : (endpoint object : ℕ) (node : NodeRef) (mount flags : ℕ) (rest : List (List ℕ)) (left : Written) (bytes : List ℕ) →
    DoesGiven endpoint object node (given.Forward mount flags rest) left (deeds.Forwards mount object flags rest) bytes bytes
goes_on endpoint object node mount flags rest left bytes = record {
  some = λ e. search rules;
  frames = sym (append-nil bytes);
  effects = λ server. refl;
  bound = λ from birth e. absurd (search rules);
  watched = λ from mask directory e. absurd (search rules);
  onward = λ other from word more e. cc;
  given = λ token directory e. absurd (search rules);
}

-- ---- what is bound by a birth is a connection

unspoken : (kind : Option NodeKind) → option_map_or (is_spoken_at protocol.Watcher) kind false ≡ true → ⊥
unspoken None e = search rules
unspoken (Some kind) e = search rules

pub no_watcher : (p : Protocol) (kind : Option NodeKind) → option_map_or (is_spoken_at p) kind false ≡ true → p ≢ protocol.Watcher
no_watcher p kind spoken e = unspoken kind (rw e at spoken)

-- where memory was wanting there is nothing to bind
unless_wanting : (what : Given) → (what ≢ given.NoMemory → BindsConnection what) → BindsConnection what
unless_wanting given.Reply h = tt
unless_wanting given.ReplyEnd h = tt
unless_wanting (given.Bind birth) h = h (λ e. search rules)
unless_wanting (given.WatchBy mask) h = tt
unless_wanting (given.Forward mount flags rest) h = tt
unless_wanting (given.Refused status) h = tt
unless_wanting (given.End status) h = tt
unless_wanting given.NoMemory h = tt

binds_by : (graph changed : Kept) (act : Act) (txid : ℕ) (what : Given) (told : List Happening) (out : Written) (new : Connection) → Acts act txid what told out new graph changed → BindsConnection what
binds_by graph changed act txid what told out new acts = by_given what refl where
  by_given : (one : Given) → one ≡ what → BindsConnection one
  by_given given.Reply is = tt
  by_given given.ReplyEnd is = tt
  by_given (given.Bind birth) is = let bindable = acts.bound birth (sym is) in no_watcher birth.protocol _ bindable.spoken
  by_given (given.WatchBy mask) is = tt
  by_given (given.Forward mount flags rest) is = tt
  by_given (given.Refused status) is = tt
  by_given (given.End status) is = tt
  by_given given.NoMemory is = tt

-- ---- a request over whatever tree the graph stands for

module _ (graph : Kept) (tokens : Tokens) (connection : Connection) (can : CanBeBound graph connection.birth) (there : (tree : Tree) × StandsFor graph tree) (asking : Asking) (request : Asked)
    (known : has_method connection.birth.protocol (method_of request) ≡ true) (txid : ℕ) (what : Given) (told : List Happening) (out : Written) (new : Connection) (changed : Kept)
    (acts : (tree : Tree) (directory : ℕ → Option ℕ) → StandsFor graph tree → NamesAsThere tokens directory request → what ≢ given.NoMemory →
    Acts (act_asked asking connection tree directory request) txid what told out new graph changed) where
  here : what ≢ given.NoMemory → Acts (act_asked asking connection there.0 (names_in tokens) request) txid what told out new graph changed
  here some = acts there.0 (names_in tokens) there.1 (looked_up tokens request) some

  pub binds_connection : BindsConnection what
  binds_connection = unless_wanting what (λ some. binds_by graph changed _ txid what told out new (here some))

  abbrev room_here : Room
  room_here = room_for asking (number_of connection.birth.node)

  can_here : CanAct connection.birth.protocol room_here there.0 (act_asked asking connection there.0 (names_in tokens) request)
  can_here = conn_acts graph there.0 connection room_here (names_in tokens) request can known (sym (named_kind graph there.0 connection.birth.node there.1 can.named))

  -- watchers can be told of it
  pub can_tell : new.birth ≡ connection.birth → (endpoint : ℕ) (handles : List Handle) (done : Done) (before after : List ℕ) → Carries request handles →
      done.told ≡ told → DoesGiven endpoint (object_of request) connection.birth.node what out done.deed before after → CanTell asking handles done new before after
  can_tell kept endpoint handles done before after carries same does =
      let act = here does.some in
      record {
        front = (spellings (frames_given endpoint (object_of request) what out), does.frames);
        directory = λ from mask directory is.
            let watch = does.watched from mask directory is in
            let watched = watch_has_room connection.birth.protocol room_here there.0 _ _ txid what out mask act.answer can_here.answer watch.asked in
            record {
              node = ap (λ (birth : code.Birth). birth.node) kept ∙ watch.same;
              protocol = ap (λ (birth : code.Birth). birth.protocol) kept ∙ watched.directory;
            };
        short = subst (All IsShort) (act.tells ∙ sym same) can_here.told;
        taken = λ from takes. takes_by done.deed refl from takes;
        next = λ token directory is.
            let given = effects_are endpoint 0 (number_of connection.birth.node) txid (object_of request) _ what out act.answer ∙ does.effects 0 in
            let both = token_of_directory connection.birth.protocol room_here there.0 _ (asker_with endpoint 0 (number_of connection.birth.node) txid (object_of request)) _ _ can_here.answer
            (ap (λ (e : Effects). e.token) (given ∙ ap (λ (one : Deed). effects_done endpoint 0 one) is)) in
            both.1;
      }
    where
      act_is : Acts (act_asked asking connection there.0 (names_in tokens) request) txid what told out new graph changed
      act_is = here does.some

      came : is_taken what ≡ true → Contains handles (Endpoint (object_of request))
      came is = taken_came (context_of connection room_here there.0 (names_in tokens)) request handles (taking_alike _ txid what out act_is.answer ∙ is) carries

      takes_by : (fate : Deed) → done.deed ≡ fate → (from : ℕ) → Takes done.deed from → Contains handles (Endpoint from)
      takes_by deeds.Stays is from takes = absurd (subst (λ (f : Deed). Takes f from) is takes)
      takes_by deeds.Ends is from takes = absurd (subst (λ (f : Deed). Takes f from) is takes)
      takes_by (deeds.Binds object birth) is from takes =
          let what_is : what ≡ given.Bind birth = does.bound object birth is in
          let effects : effects_given endpoint 0 (number_of connection.birth.node) (object_of request) (given.Bind birth) out.handles ≡ effects_done endpoint 0 (deeds.Binds object birth) =
          ap (λ (one : Given). effects_given endpoint 0 (number_of connection.birth.node) (object_of request) one out.handles) (sym what_is) ∙ does.effects 0 ∙ ap (effects_done endpoint 0) is in
          let same : Some (object_of request) ≡ Some object = ap (λ (e : Effects). option_map (λ (bound : Bound). bound.endpoint) e.bound) effects in
          let here_one : object_of request ≡ object = cc in
          let it : object ≡ from = subst (λ (f : Deed). Takes f from) is takes in
          subst (λ (n : ℕ). Contains handles (Endpoint n)) (here_one ∙ it) (came (ap is_taken what_is))
      takes_by (deeds.Watches object directory mask) is from takes =
          let watch = does.watched object mask directory is in
          let effects : effects_given endpoint 0 (number_of connection.birth.node) (object_of request) (given.WatchBy mask) out.handles ≡ effects_done endpoint 0 (deeds.Watches object directory mask) =
          ap (λ (one : Given). effects_given endpoint 0 (number_of connection.birth.node) (object_of request) one out.handles) (sym watch.asked) ∙ does.effects 0 ∙ ap (effects_done endpoint 0) is in
          let same : Some (object_of request) ≡ Some object = ap (λ (e : Effects). option_map (λ (bound : Bound). bound.endpoint) e.bound) effects in
          let here_one : object_of request ≡ object = cc in
          let it : object ≡ from = subst (λ (f : Deed). Takes f from) is takes in
          subst (λ (n : ℕ). Contains handles (Endpoint n)) (here_one ∙ it) (came (ap is_taken watch.asked))
      takes_by (deeds.Refuses object) is from takes = absurd (subst (λ (f : Deed). Takes f from) is takes)
      takes_by (deeds.Forwards mount object flags rest) is from takes = absurd (subst (λ (f : Deed). Takes f from) is takes)
      takes_by (deeds.Gives token directory) is from takes = absurd (subst (λ (f : Deed). Takes f from) is takes)

-- ---- a moment by its parts

abbrev sight : ℕ → Asking → Connection → Moment → Moment
sight server asking connection moment =
    record { bound = bound_with server asking.endpoint connection.birth; position = connection.position; room = room_for asking (number_of connection.birth.node); tree = moment.tree; directory = moment.directory }

is_sight : (server : ℕ) (asking : Asking) (graph : Kept) (connection : Connection) (moment : Moment) → IsAskedAt server asking graph connection moment → sight server asking connection moment ≡ moment
is_sight server asking graph connection moment asked = λ i. record {
  bound = sym asked.bound i;
  position = sym asked.position i;
  room = sym asked.room i;
  tree = moment.tree;
  directory = moment.directory;
}

-- ---- what a request is answered

module _ (server : ℕ) (asking : Asking) (graph changed : Kept) (connection : Connection) (can : CanBeBound graph connection.birth) (moment : Moment) (asks : IsAskedAt server asking graph connection moment)
    (txid : ℕ) (request : Asked) (known : has_method connection.birth.protocol (method_of request) ≡ true) (what : Given) (told : List Happening) (left : Written) (new : Connection) (kept : new.birth ≡ connection.birth)
    (acts : Acts (act_of (context_of connection (room_for asking (number_of connection.birth.node)) moment.tree moment.directory) request) txid what told left new graph changed)
    (done : Done) (same : done.told ≡ told) (before after : List ℕ)
    (does : DoesGiven asking.endpoint (object_of request) connection.birth.node what left done.deed before after) where
  abbrev room : Room
  room = room_for asking (number_of connection.birth.node)

  abbrev act : Act
  act = act_of (context_of connection room moment.tree moment.directory) request

  can_now : CanAct connection.birth.protocol room moment.tree act
  can_now = conn_acts graph moment.tree connection room moment.directory request can known (sym (named_kind graph moment.tree connection.birth.node asks.tree can.named))

  abbrev asker : Asker
  asker = asker_with asking.endpoint server (number_of connection.birth.node) txid (object_of request)

  effects : effects_by asker act.answer ≡ effects_done asking.endpoint server done.deed
  effects = effects_are asking.endpoint server (number_of connection.birth.node) txid (object_of request) act.answer what left acts.answer ∙ does.effects server

  -- a token is given on a directory's connection alone
  on_directory : (token : ℕ) (directory : NodeRef) → done.deed ≡ deeds.Gives token directory → IsOnDirectory directory new
  on_directory token directory is = record {
    node = ap (λ (birth : code.Birth). birth.node) kept ∙ does.given token directory is;
    protocol =
        ap (λ (birth : code.Birth). birth.protocol) kept
        ∙ (token_of_directory connection.birth.protocol room moment.tree act.change asker act.answer _ can_now.answer
        (ap (λ (e : Effects). e.token) (effects ∙ ap (λ (one : Deed). effects_done asking.endpoint server one) is))).0;
  }

  -- and so a directory is watched
  may_watch : (object mask : ℕ) (directory : NodeRef) → done.deed ≡ deeds.Watches object directory mask → MayWatch room act.change directory new
  may_watch object mask directory is =
      let watch = does.watched object mask directory is in
      let watched = watch_has_room connection.birth.protocol room moment.tree act.change act.answer txid what left mask acts.answer can_now.answer watch.asked in
      record {
        here = record {
          node = ap (λ (birth : code.Birth). birth.node) kept ∙ watch.same;
          protocol = ap (λ (birth : code.Birth). birth.protocol) kept ∙ watched.directory;
        };
        few = watched.few;
        room = watched.room;
        still = watched.still;
      }

  answered : Answers (sight server asking connection moment) (outcome_of_read (sight server asking connection moment) (Ok (txid, request))) done new graph changed before after
  answered = record {
    frames = does.frames ∙ ap (λ (frames : List Frame). before ++ spellings frames) (sym (frames_are asking.endpoint server (number_of connection.birth.node) txid (object_of request) act.answer what left acts.answer));
    effects = effects;
    told = acts.tells ∙ sym same;
    position = acts.position;
    change = acts.change;
    bound = λ object birth is. acts.bound birth (does.bound object birth is);
    room = λ object birth is. bound_has_room connection.birth.protocol room moment.tree act.change act.answer txid what left birth acts.answer can_now.answer (does.bound object birth is);
    watched = may_watch;
    given = on_directory;
    mounted = λ mount object flags rest is. onward_is_mounted connection.birth.protocol room moment.tree act.change act.answer txid what left mount acts.answer can_now.answer (does.onward mount object flags rest is);
  }

  pub request_answers : Answers moment (outcome_of_read moment (Ok (txid, request))) done new graph changed before after
  request_answers = subst (λ m. Answers m (outcome_of_read m (Ok (txid, request))) done new graph changed before after) (is_sight server asking graph connection moment asks) answered

-- and a message that is none
module _ (server : ℕ) (asking : Asking) (graph : Kept) (connection : Connection) (moment : Moment) (asks : IsAskedAt server asking graph connection moment)
    (fault : RequestFault) (done : Done) (told : done.told ≡ nothing_told) (before after : List ℕ) (does : DoesFault asking.endpoint fault done.deed before after) where
  pub fault_answers : Answers moment (outcome_of_read moment (Err fault)) done connection graph graph before after
  fault_answers = subst (λ m. Answers m (outcome_of_read m (Err fault)) done connection graph graph before after) (is_sight server asking graph connection moment asks) (record {
    frames = does.frames server (number_of connection.birth.node);
    effects = does.effects server (number_of connection.birth.node);
    told = sym told;
    position = refl;
    change = λ tree stands. stands;
    bound = λ object birth is. absurd (does.bound object birth is);
    room = λ object birth is. absurd (does.bound object birth is);
    watched = λ object mask directory is. absurd (does.watched object mask directory is);
    given = λ token directory is. absurd (does.given token directory is);
    mounted = λ mount object flags rest is. absurd (does.onward mount object flags rest is);
  })

module _ (server : ℕ) (asking : Asking) (handles : List Handle) (connection : Connection) (fault : RequestFault) (done : Done) (told : done.told ≡ nothing_told) (before after : List ℕ)
    (does : DoesFault asking.endpoint fault done.deed before after) where
  pub fault_tells : CanTell asking handles done connection before after
  fault_tells = record {
    front = (spellings (frames_of (asker_with asking.endpoint server 0 (fault_txid fault) 0) (fault_answer fault)), does.frames server 0);
    directory = λ object mask directory is. absurd (does.watched object mask directory is);
    short = subst (All IsShort) (sym told) (All-nil IsShort);
    taken = λ from takes. takes_none done.deed refl from takes;
    next = λ token directory is. absurd (does.given token directory is);
  }
    where
      takes_none : (fate : Deed) → done.deed ≡ fate → (from : ℕ) → Takes done.deed from → Contains handles (Endpoint from)
      takes_none deeds.Stays is from takes = absurd (subst (λ (f : Deed). Takes f from) is takes)
      takes_none deeds.Ends is from takes = absurd (subst (λ (f : Deed). Takes f from) is takes)
      takes_none (deeds.Binds object birth) is from takes = absurd (does.bound object birth is)
      takes_none (deeds.Watches object directory mask) is from takes = absurd (does.watched object mask directory is)
      takes_none (deeds.Refuses object) is from takes = absurd (subst (λ (f : Deed). Takes f from) is takes)
      takes_none (deeds.Forwards mount object flags rest) is from takes = absurd (subst (λ (f : Deed). Takes f from) is takes)
      takes_none (deeds.Gives token directory) is from takes = absurd (subst (λ (f : Deed). Takes f from) is takes)

pub ok_map : {X E : Type 0} (P Q : X → Type 0) (r : Result X E) → ((x : X) → P x → Q x) → IfOk r P → IfOk r Q
ok_map P Q (Ok x) f h = f x h
ok_map P Q (Err e) f h = tt

pub ok_both : {X E : Type 0} (P Q : X → Type 0) (r : Result X E) → IfOk r P → IfOk r Q → IfOk r (λ x. P x × Q x)
ok_both P Q (Ok x) p q = (p, q)
ok_both P Q (Err e) p q = tt

pub ok_and : {X E : Type 0} (Q : X → Type 0) (P : Type 0) (r : Result X E) → IfOk r Q → OnOk r P → IfOk r (λ x. Q x × P)
ok_and Q P (Ok x) q p = (q, p)
ok_and Q P (Err e) q p = tt

pub on_ok : {X E P Q : Type 0} (r : Result X E) → (P → Q) → OnOk r P → OnOk r Q
on_ok (Ok x) f h = f h
on_ok (Err e) f h = h

pub of_ok : {X E P : Type 0} (r : Result X E) (x : X) → r ≡ Ok x → OnOk r P → P
of_ok {X} {E} {P} r x is h = subst (λ (one : Result X E). OnOk one P) is h

pub some_both : {X : Type 0} (P Q R : X → Type 0) (o : Option X) → ((x : X) → P x → Q x → R x) → IfSome o P → IfSome o Q → IfSome o R
some_both P Q R (Some x) f p q = f x p q
some_both P Q R None f p q = tt

pub some_none : {X : Type 0} (P : X → Type 0) (o : Option X) → o ≡ None → IfSome o P
some_none P (Some x) e = absurd (cc)
some_none P None e = tt

-- what was written stands behind what was there, or nothing was written
pub begins_by : {X E : Type 0} (r : Result X E) (before after more : List ℕ) → OnOk r (after ≡ before ++ more) → OnErr r (after ≡ before) → Begins before after
begins_by (Ok x) before after more written none = (more, written)
begins_by (Err e) before after more written none = ([], none ∙ sym (append-nil before))
