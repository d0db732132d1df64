-- A server whose connection answered does what the outcome says once its deed is settled.
use Rattle.std.proofs.Common.{◌≡◌, ◌∙◌, ◌==◌, ℕ, ◌+◌, Bool, cond, List, [], ◌∷◌, length, Option, Some, None, refl, sym, ap, subst, arith, rules}
use Rattle.std.specs.Prelude.{count_by, if◌then◌else◌, option_to_list}
use Rattle.std.specs.FinMap as finite
use Rattle.std.specs.Option.{option_map, option_map_or}
use Rattle.std.proofs.lemmas.List.Sums.{sum_by-cons}
use Rattle.node_graph.specs.declared.nodes.NodeRef.{NodeRef}
use Rattle.node_graph.specs.Graph.{holds_at, number_of}
use Rattle.node_graph.specs.Tree.{after}
use Rattle.conn_rules.specs.Births.{Position, fresh}
use Rattle.vfs_journal.specs.Outcomes.{Given, Outcome}
use Rattle.vfs_journal.specs.Serving.{Moment}
use Rattle.vfs_journal.specs.Starts.{Bound}
use Rattle.vfs_journal.specs.View.{moved}
use Rattle.vfs_server.specs.declared.deed.Deed.{Deed}
use Rattle.vfs_server.specs.declared.deed.Deed.TheVariants as deeds
use Rattle.vfs_server.specs.declared.fate.Fate.{Fate}
use Rattle.vfs_server.specs.declared.fate.Fate.TheVariants as fates
use Rattle.vfs_server.specs.Binding.{Binds, NamesBy, watching_behind}
use Rattle.vfs_server.specs.Effects.{Effects}
use Rattle.vfs_server.specs.Fates.{Numbers, numbers_in, numbers_told}
use Rattle.vfs_server.specs.Kept.{Connections, Tokens}
use Rattle.vfs_server.specs.Servers.{Server, bound_with, in_use, named, seen, seen_as, watcher_with}
use Rattle.vfs_server.specs.Serving.{HasMount, Serves, newly_held, newly_named, newly_seen}
use Rattle.vfs_server.specs.Steps.{HasAnswered, Settles}
use Rattle.vfs_server.proofs.Held.{held_more}
use Rattle.vfs_server.proofs.Maps.{one_if}

-- what an endpoint is seen as in a server of these
abbrev seen_by : ℕ → ℕ → Connections → List Bound → Option (Bound × Position)
seen_by endpoint index connections watchers = seen_as index watchers endpoint (finite.get connections endpoint)

-- how often these newly hold a node
abbrev bound_once : ℕ → Option Bound → ℕ
bound_once number o = count_by (λ (bound : Bound). bound.birth.node == number) (option_to_list o)

abbrev given_once : ℕ → Option Given → ℕ
given_once number o = count_by (λ (given : Given). given.node == number) (option_to_list o)

-- the numbers of effects
abbrev numbers_of : Effects → Numbers
numbers_of effects =
    record {
      bound = option_map (λ (bound : Bound). bound.endpoint) effects.bound;
      ends = effects.ends;
      forward = effects.forward;
      token = option_map (λ (given : Given). given.token) effects.token;
    }

module _ (moment : Moment) (outcome : Outcome) (deed : Deed) (fate : Fate) (old mid : Server) (before behind : List ℕ) (answered : HasAnswered moment outcome deed old mid before behind)
    (tells : numbers_in outcome ≡ numbers_told moment.bound.endpoint fate)
    (mounted : (mount object flags : ℕ) (rest : List (List ℕ)) → fate ≡ fates.Forwards mount object flags rest → HasMount moment.tree mount) where
  abbrev seen_then : ℕ → Option (Bound × Position)
  seen_then endpoint = option_map (moved moment.bound.endpoint outcome.position) (seen old endpoint)

  named_still : (new : Server) → new.tokens ≡ mid.tokens → outcome.token ≡ None → (token : ℕ) → named new token ≡ newly_named outcome.token token (named old token)
  named_still new same none token =
      ap (λ (tokens : Tokens). option_map number_of (finite.get tokens token)) (same ∙ answered.tokens)
      ∙ sym (ap (λ (o : Option Given). newly_named o token (named old token)) none)

  -- ---- nothing is bound, and no token is given

  still : outcome.bound ≡ None → outcome.token ≡ None → Serves moment outcome fate old mid before behind
  still unbound none = record {
    frames = answered.frames;
    tells = tells;
    index = answered.index;
    bound = λ endpoint. answered.bound endpoint ∙ sym (ap (λ (o : Option Bound). newly_seen o endpoint (seen_then endpoint)) unbound);
    count =
        let one : length (option_to_list outcome.bound) ≡ 0 = ap (λ (o : Option Bound). length (option_to_list o)) unbound in
        let same = answered.count in
        omega (arith, one, same);
    watchers = answered.watchers ∙ sym (ap (λ (o : Option Bound). option_map_or (watching_behind old.watchers) o old.watchers) unbound);
    tokens = named_still mid refl none;
    tree = answered.tree;
    holds = λ number.
        let same = answered.holds number in
        let one : bound_once number outcome.bound ≡ 0 = ap (bound_once number) unbound in
        let other : given_once number outcome.token ≡ 0 = ap (given_once number) none in
        omega (arith, same, one, other);
    here = λ bound is. absurd (let wrong : None ≡ Some bound = sym unbound ∙ is in cc);
    given = λ given is. absurd (let wrong : None ≡ Some given = sym none ∙ is in cc);
    mounted = mounted;
  }

  -- ---- an endpoint is bound

  with_bound : (newest : Bound) (new : Server) → outcome.bound ≡ Some newest → outcome.token ≡ None → newest.server ≡ moment.bound.server → Binds mid newest new →
      Serves moment outcome fate old new before behind
  with_bound newest new is none at binds = record {
    frames = answered.frames;
    tells = tells;
    index = binds.index ∙ answered.index;
    bound = λ endpoint.
        binds.bound endpoint
        ∙ ap (λ (o : Option (Bound × Position)). if endpoint == newest.endpoint then Some (newest, fresh) else o) (answered.bound endpoint)
        ∙ sym (ap (λ (o : Option Bound). newly_seen o endpoint (seen_then endpoint)) is);
    count =
        let one : length (option_to_list outcome.bound) ≡ 1 = ap (λ (o : Option Bound). length (option_to_list o)) is in
        let same = answered.count in
        let more = binds.count in
        omega (arith, one, same, more);
    watchers =
        binds.watchers ∙ ap (λ (watchers : List Bound). watching_behind watchers newest) answered.watchers
        ∙ sym (ap (λ (o : Option Bound). option_map_or (watching_behind old.watchers) o old.watchers) is);
    tokens = named_still new binds.tokens none;
    tree = λ tree stands. binds.tree (after tree outcome.change) (answered.tree tree stands);
    holds =
        held_more mid.graph new.graph newest.birth.node (holds_at old.graph) (λ number. holds_at old.graph number + newly_held outcome number) binds.holds answered.holds
        (λ number.
        let one = ap (bound_once number) is ∙ sum_by-cons (λ (bound : Bound). one_if (bound.birth.node == number)) newest [] in
        let other : given_once number outcome.token ≡ 0 = ap (given_once number) none in
        omega (arith, one, other));
    here = λ bound same.
        let one : Some newest ≡ Some bound = sym is ∙ same in
        let two : newest ≡ bound = cc in
        subst (λ (b : Bound). b.server ≡ moment.bound.server) two at;
    given = λ given same. absurd (let wrong : None ≡ Some given = sym none ∙ same in cc);
    mounted = mounted;
  }

  -- ---- a token is given

  with_token : (token : ℕ) (directory : NodeRef) (new : Server) → outcome.bound ≡ None →
      outcome.token ≡ Some (record { token = token; endpoint = moment.bound.endpoint; server = moment.bound.server; node = number_of directory }) → NamesBy mid token directory new →
      Serves moment outcome fate old new before behind
  with_token token directory new unbound is names = record {
    frames = answered.frames;
    tells = tells;
    index = names.index ∙ answered.index;
    bound = λ endpoint.
        (λ i. seen_by endpoint (names.index i) (names.bound i) (names.watchers i))
        ∙ answered.bound endpoint
        ∙ sym (ap (λ (o : Option Bound). newly_seen o endpoint (seen_then endpoint)) unbound);
    count =
        let one : length (option_to_list outcome.bound) ≡ 0 = ap (λ (o : Option Bound). length (option_to_list o)) unbound in
        let same = answered.count in
        let connections = ap (λ (found : Connections). finite.len found) names.bound in
        let watchers = ap (λ (found : List Bound). length found) names.watchers in
        omega (arith, one, same, connections, watchers);
    watchers = names.watchers ∙ answered.watchers ∙ sym (ap (λ (o : Option Bound). option_map_or (watching_behind old.watchers) o old.watchers) unbound);
    tokens = λ other.
        names.tokens other
        ∙ ap (λ (o : Option ℕ). if other == token then Some (number_of directory) else o) (ap (λ (tokens : Tokens). option_map number_of (finite.get tokens other)) answered.tokens)
        ∙ sym (ap (λ (o : Option Given). newly_named o other (named old other)) is);
    tree = λ tree stands. names.tree (after tree outcome.change) (answered.tree tree stands);
    holds =
        held_more mid.graph new.graph (number_of directory) (holds_at old.graph) (λ number. holds_at old.graph number + newly_held outcome number) names.holds answered.holds
        (λ number.
        let one : bound_once number outcome.bound ≡ 0 = ap (bound_once number) unbound in
        let other = ap (given_once number) is
        ∙ sum_by-cons (λ (given : Given). one_if (given.node == number)) (record { token = token; endpoint = moment.bound.endpoint; server = moment.bound.server; node = number_of directory }) [] in
        omega (arith, one, other));
    here = λ bound same. absurd (let wrong : None ≡ Some bound = sym unbound ∙ same in cc);
    given = λ given same.
        let one : Some (record { token = token; endpoint = moment.bound.endpoint; server = moment.bound.server; node = number_of directory }) ≡ Some given = sym is ∙ same in
        let two : record { token = token; endpoint = moment.bound.endpoint; server = moment.bound.server; node = number_of directory } ≡ given = cc in
        (ap (λ (g : Given). g.server) (sym two), ap (λ (g : Given). g.endpoint) (sym two));
    mounted = mounted;
  }

-- ---- by deeds

-- what is bound at a server is bound at the one that the moment speaks of
pub settled : (moment : Moment) (outcome : Outcome) (deed : Deed) (fate : Fate) (old mid new : Server) (before behind : List ℕ) → HasAnswered moment outcome deed old mid before behind → mid.index ≡ moment.bound.server → Settles mid deed fate new →
    Serves moment outcome fate old new before behind
settled moment outcome deeds.Stays fate old mid new before behind answered at (is, same) =
    let tells = ap numbers_of answered.effects in
    let bound = ap (λ (e : Effects). e.bound) answered.effects in
    let token = ap (λ (e : Effects). e.token) answered.effects in
    subst (λ (server : Server). Serves moment outcome fate old server before behind) (sym same)
    (subst (λ (f : Fate). Serves moment outcome f old mid before behind) (sym is)
    (still moment outcome deeds.Stays fates.Stays old mid before behind answered tells (λ mount object flags rest wrong. absurd (search rules)) bound token))
settled moment outcome deeds.Ends fate old mid new before behind answered at (is, same) =
    let tells = ap numbers_of answered.effects in
    let bound = ap (λ (e : Effects). e.bound) answered.effects in
    let token = ap (λ (e : Effects). e.token) answered.effects in
    subst (λ (server : Server). Serves moment outcome fate old server before behind) (sym same)
    (subst (λ (f : Fate). Serves moment outcome f old mid before behind) (sym is)
    (still moment outcome deeds.Ends fates.Ends old mid before behind answered tells (λ mount object flags rest wrong. absurd (search rules)) bound token))
settled moment outcome (deeds.Binds object birth) fate old mid new before behind answered at (is, binds) =
    let tells = ap numbers_of answered.effects in
    let bound = ap (λ (e : Effects). e.bound) answered.effects in
    let token = ap (λ (e : Effects). e.token) answered.effects in
    subst (λ (f : Fate). Serves moment outcome f old new before behind) (sym is)
    (with_bound moment outcome (deeds.Binds object birth) (fates.Binds object) old mid before behind answered tells (λ mount from flags rest wrong. absurd (search rules))
    (bound_with moment.bound.server object birth) new bound token refl
    (subst (λ (index : ℕ). Binds mid (bound_with index object birth) new) at binds))
settled moment outcome (deeds.Watches object directory mask) fate old mid new before behind answered at (is, binds) =
    let tells = ap numbers_of answered.effects in
    let bound = ap (λ (e : Effects). e.bound) answered.effects in
    let token = ap (λ (e : Effects). e.token) answered.effects in
    subst (λ (f : Fate). Serves moment outcome f old new before behind) (sym is)
    (with_bound moment outcome (deeds.Watches object directory mask) (fates.Binds object) old mid before behind answered tells (λ mount from flags rest wrong. absurd (search rules))
    (watcher_with moment.bound.server object (number_of directory) mask) new bound token refl
    (subst (λ (index : ℕ). Binds mid (watcher_with index object (number_of directory) mask) new) at binds))
settled moment outcome (deeds.Refuses object) fate old mid new before behind answered at (is, same) =
    let tells = ap numbers_of answered.effects in
    let bound = ap (λ (e : Effects). e.bound) answered.effects in
    let token = ap (λ (e : Effects). e.token) answered.effects in
    subst (λ (server : Server). Serves moment outcome fate old server before behind) (sym same)
    (subst (λ (f : Fate). Serves moment outcome f old mid before behind) (sym is)
    (still moment outcome (deeds.Refuses object) (fates.Refuses object) old mid before behind answered tells (λ mount from flags rest wrong. absurd (search rules)) bound token))
settled moment outcome (deeds.Forwards mount object flags rest) fate old mid new before behind answered at (is, same) =
    let tells = ap numbers_of answered.effects in
    let bound = ap (λ (e : Effects). e.bound) answered.effects in
    let token = ap (λ (e : Effects). e.token) answered.effects in
    subst (λ (server : Server). Serves moment outcome fate old server before behind) (sym same)
    (subst (λ (f : Fate). Serves moment outcome f old mid before behind) (sym is)
    (still moment outcome (deeds.Forwards mount object flags rest) (fates.Forwards mount object flags rest) old mid before behind answered tells
    (λ other from word left one.
    let two : mount ≡ other = cc in
    subst (HasMount moment.tree) two (answered.mounted mount object flags rest refl)) bound token))
settled moment outcome (deeds.Gives token directory) fate old mid new before behind answered at (is, names) =
    let tells = ap numbers_of answered.effects in
    let bound = ap (λ (e : Effects). e.bound) answered.effects in
    let given = ap (λ (e : Effects). e.token) answered.effects in
    subst (λ (f : Fate). Serves moment outcome f old new before behind) (sym is)
    (with_token moment outcome (deeds.Gives token directory) (fates.Gives token) old mid before behind answered tells (λ mount from flags rest wrong. absurd (search rules))
    token directory new bound given names)
