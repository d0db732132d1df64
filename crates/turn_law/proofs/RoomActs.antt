-- What is in use at a server, and which directories tokens name, matter to no act of a request that is no change, but that it may be refused
-- for want of room.
use Rattle.std.proofs.Common.{◌≡◌, ◌⊎◌, ℕ, Bool, true, false, List, [], ◌∷◌, ◌++◌, Option, Some, None, refl, ap, ◌∙◌, inl, inr}
use Rattle.fidl_names.specs.First.{cause_if, first_of}
use Rattle.fidl_names.specs.declared.methods.Method.{Method}
use Rattle.fidl_names.specs.declared.methods.Method.TheVariants as method
use Rattle.fidl_names.specs.declared.statuses.Status.{Status}
use Rattle.fidl_names.specs.declared.statuses.Status.TheVariants as status
use Rattle.io_messages.specs.Asked.{Asked, method_of}
use Rattle.io_messages.specs.Asked as asks
use Rattle.node_graph.specs.Refusals.{create_refusal}
use Rattle.node_graph.specs.Tree.{Tree, name_in}
use Rattle.path_walk.specs.Paths.{names_of}
use Rattle.conn_rules.specs.declared.births.Room.{Room}
use Rattle.conn_rules.specs.Acts.{act_of, method_refusals, row_act}
use Rattle.conn_rules.specs.Answers.{Act, binds, only, refuses, failure_of}
use Rattle.conn_rules.specs.Births.{Birth, Position}
use Rattle.conn_rules.specs.Contexts.{Context, context_with}
use Rattle.conn_rules.specs.Nodes.{is_file, kind_here}
use Rattle.conn_rules.specs.Opens.{arrival, by_walk, connects_without_right, entry_refusals, is_full, is_other_kind, making, marks_file, other_kind_status}
use Rattle.conn_rules.specs.Refusals.{as_status, unless}
use Rattle.conn_rules.specs.Walks.{Walk, arrives, missing, crosses, stops, limit_of, walk}
use Rattle.io_flags.specs.Words.{creates, has}
use Rattle.io_flags.specs.declared.names.Flag.TheVariants as flag
use Rattle.std.specs.Prelude.{◌&&◌, not}
use Rattle.turn_law.specs.Premises.{is_change}

-- nothing is in use
abbrev pub empty_room : Room
empty_room = record { connections = 0; watchers = 0; token = None }

abbrev pub names_nothing : ℕ → Option ℕ
names_nothing token = None

-- the act is that of the other room, or the endpoint that the request carries ends for want of room
abbrev pub IsSameOrFull : Position → Act → Act → Type 0
IsSameOrFull position act other = (act ≡ other) ⊎ (act ≡ only position (refuses status.NoResources))

-- the last refusal of a list comes, or the first is the same without it
last_refusal : (front : List (Option Status)) (b : Bool) (s : Status) →
    (first_of (front ++ cause_if b s ∷ []) ≡ first_of (front ++ cause_if false s ∷ [])) ⊎ (first_of (front ++ cause_if b s ∷ []) ≡ Some s)
last_refusal [] true s = inr refl
last_refusal [] false s = inl refl
last_refusal (None ∷ front) b s = last_refusal front b s
last_refusal (Some t ∷ front) b s = inl refl

unless_either : (o other : Option Status) (position : Position) (m : Method) (act : Act) → failure_of m status.NoResources ≡ refuses status.NoResources → (o ≡ other) ⊎ (o ≡ Some status.NoResources) →
    IsSameOrFull position (unless o position m act) (unless other position m act)
unless_either o other position m act fails (inl e) = inl (ap (λ (x : Option Status). unless x position m act) e)
unless_either o other position m act fails (inr e) = inr (ap (λ (x : Option Status). unless x position m act) e ∙ ap (only position) fails)

-- what is refused before is refused in both
unless_both : (o : Option Status) (position : Position) (m : Method) (act other : Act) → IsSameOrFull position act other → IsSameOrFull position (unless o position m act) (unless o position m other)
unless_both None position m act other h = h
unless_both (Some s) position m act other h = inl refl

module _ (birth : Birth) (position : Position) (room : Room) (tree : Tree) (directory : ℕ → Option ℕ) where
  abbrev here : Context
  here = context_with birth position room tree directory

  abbrev alone : Context
  alone = context_with birth position empty_room tree names_nothing

  walk_alike : (word : ℕ) (w : Walk) → IsSameOrFull position (by_walk here word w) (by_walk alone word w)
  walk_alike word (arrives node masks) =
      unless_either _ _ position method.OpenPath (arrival position word (limit_of birth.rights masks) node (kind_here tree node)) refl
      (last_refusal
      (cause_if (has word flag.MustCreate) status.AlreadyExists
      ∷ cause_if (is_other_kind word (kind_here tree node)) (other_kind_status word)
      ∷ cause_if (marks_file word && not (is_file (kind_here tree node))) status.NotFile
      ∷ cause_if (connects_without_right word (kind_here tree node)) status.AccessDenied
      ∷ [])
      (is_full room) status.NoResources)
  walk_alike word (missing directory' name masks) =
      unless_either _ _ position method.OpenPath (making position tree word (limit_of birth.rights masks) (name_in directory' name)) refl
      (last_refusal
      (cause_if (not (creates word)) status.NotFound ∷ as_status (create_refusal tree.edges (name_in directory' name)) ∷ [])
      (is_full room) status.NoResources)
  walk_alike word (crosses mount rest masks) = inl refl
  walk_alike word (stops s) = inl refl

  row_alike : (request : Asked) → is_change request ≡ false → IsSameOrFull position (row_act here request) (row_act alone request)
  row_alike (asks.clone endpoint) e = unless_either _ _ position method.Clone (only position (binds birth false)) refl (last_refusal [] (is_full room) status.NoResources)
  row_alike (asks.open_path path word given object) e =
      unless_both (first_of (entry_refusals birth word path)) position method.OpenPath _ _ (walk_alike word (walk tree word (names_of path) birth.node))
  row_alike asks.get_token e = absurd (cc)
  row_alike (asks.rename src token dst) e = absurd (cc)
  row_alike (asks.link src token dst) e = absurd (cc)
  row_alike (asks.unlink name flags) e = absurd (cc)
  row_alike (asks.watch mask options watcher) e = absurd (cc)
  row_alike (asks.write bytes) e = absurd (cc)
  row_alike (asks.write_at bytes offset) e = absurd (cc)
  row_alike (asks.resize size) e = absurd (cc)
  row_alike _ e = inl refl

  pub act_alike : (request : Asked) → is_change request ≡ false → IsSameOrFull position (act_of here request) (act_of alone request)
  unfolding act_of
  act_alike request e = unless_both (first_of (method_refusals birth (method_of request))) position (method_of request) _ _ (row_alike request e)
