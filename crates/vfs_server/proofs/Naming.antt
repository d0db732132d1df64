-- What a server is behind one token more, and one less.
use Rattle.std.proofs.Common.{◌≡◌, ◌∙◌, ℕ, ◌==◌, ◌+◌, ◌-◌, Option, Some, None, refl, sym, ap, subst}
use Rattle.std.specs.Prelude.{if◌then◌else◌}
use Rattle.std.proofs.lemmas.Bool.{eq-eqb, ne_eqb}
use Rattle.std.specs.FinMap as finite
use Rattle.std.specs.Option.{option_map}
use Rattle.node_graph.specs.declared.nodes.NodeRef.{NodeRef}
use Rattle.node_graph.specs.Graph.{Kept, HoldsNow, KeepsNames, Leads, holds_at, number_of}
use Rattle.node_graph.specs.Tree.{stay}
use Rattle.vfs_server.specs.Binding.{Forgets, NamesBy}
use Rattle.vfs_server.specs.Kept.{Connections, Tokens}
use Rattle.vfs_server.specs.Seats.{Seats}
use Rattle.vfs_server.proofs.Maps.{standing, same, other, get_put, get_put_other, get_cut, get_cut_other, nothing_cut}
use Rattle.vfs_server.proofs.Binding.{server_of}

pub names_one : (index : ℕ) (old new : Kept) (connections : Connections) (seats : Seats) (tokens : Tokens) (token : ℕ) (directory : NodeRef) →
    Leads old new stay → HoldsNow old new (number_of directory) (holds_at old (number_of directory) + 1) → KeepsNames old new →
    NamesBy (server_of index old connections seats tokens) token directory (server_of index new connections seats (finite.insert tokens token directory))
names_one index old new connections seats tokens token directory tree holds names = record {
  index = refl;
  bound = refl;
  watchers = refl;
  tokens = λ one. elim (standing one token) [
    | same e b ↦
        ap (option_map number_of) (ap (finite.get (finite.insert tokens token directory)) e ∙ get_put tokens token directory)
        ∙ sym (ap (λ t. if t then Some (number_of directory) else option_map number_of (finite.get tokens one)) (eq-eqb one token e))
    | other e b ↦
        ap (option_map number_of) (get_put_other tokens token one directory e)
        ∙ sym (ap (λ t. if t then Some (number_of directory) else option_map number_of (finite.get tokens one)) (ne_eqb one token e))
  ];
  tree = tree;
  holds = holds;
  names = names;
}

pub is_unnamed : (o : Option NodeRef) → option_map number_of o ≡ None → o ≡ None
is_unnamed None none = refl
is_unnamed (Some directory) none = absurd (cc)

-- what a token names here is named no more
cut_named : (tokens : Tokens) (token one : ℕ) → option_map number_of (finite.get (finite.remove tokens token) one) ≡ (if one == token then None else option_map number_of (finite.get tokens one))
cut_named tokens token one = elim (standing one token) [
  | same e b ↦
      ap (option_map number_of) (ap (finite.get (finite.remove tokens token)) e ∙ get_cut tokens token)
      ∙ sym (ap (λ t. if t then None else option_map number_of (finite.get tokens one)) (eq-eqb one token e))
  | other e b ↦
      ap (option_map number_of) (get_cut_other tokens token one e)
      ∙ sym (ap (λ t. if t then None else option_map number_of (finite.get tokens one)) (ne_eqb one token e))
]

pub forgets_one : (index : ℕ) (old new : Kept) (connections : Connections) (seats : Seats) (tokens : Tokens) (token : ℕ) (directory : NodeRef) → finite.get tokens token ≡ Some directory →
    Leads old new stay → HoldsNow old new (number_of directory) (holds_at old (number_of directory) - 1) → KeepsNames old new →
    Forgets (server_of index old connections seats tokens) token (server_of index new connections seats (finite.remove tokens token))
forgets_one index old new connections seats tokens token directory there tree holds names = record {
  index = refl;
  bound = refl;
  watchers = refl;
  tokens = cut_named tokens token;
  tree = tree;
  holds = λ node is.
      let here : Some (number_of directory) ≡ Some node = sym (ap (option_map number_of) there) ∙ is in
      let one : number_of directory ≡ node = cc in
      subst (λ n. HoldsNow old new n (holds_at old n - 1)) one holds;
  names = names;
  idle = λ none. absurd (let wrong : Some (number_of directory) ≡ None = sym (ap (option_map number_of) there) ∙ none in cc);
}

pub forgets_none : (index : ℕ) (graph : Kept) (connections : Connections) (seats : Seats) (tokens : Tokens) (token : ℕ) → finite.get tokens token ≡ None →
    Forgets (server_of index graph connections seats tokens) token (server_of index graph connections seats (finite.remove tokens token))
forgets_none index graph connections seats tokens token none = record {
  index = refl;
  bound = refl;
  watchers = refl;
  tokens = cut_named tokens token;
  tree = λ tree stands. stands;
  holds = λ node is. absurd (let wrong : None ≡ Some node = sym (ap (option_map number_of) none) ∙ is in cc);
  names = λ node named kept. (named, refl);
  idle = λ is. ap (server_of index graph connections seats) (nothing_cut tokens token none);
}
