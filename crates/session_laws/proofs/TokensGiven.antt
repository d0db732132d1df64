-- Each token was given on an endpoint that was bound with MODIFY_DIRECTORY.
use Rattle.std.proofs.Common.{◌≡◌, ℕ, ◌==◌, ◌⊎◌, true, not, if◌then◌else◌, find, List, ◌++◌, option_to_list, Option, Some, None, Contains, refl, sym, ap, ◌∙◌, subst, inl, inr}
use Rattle.std.specs.Option.{option_map_or}
use Rattle.std.proofs.lemmas.List.Elements.{All-weaker, Contains-append_cases, Contains-append_left}
use Rattle.std.specs.Prelude.{IsTrue}
use Rattle.fidl_names.specs.First.{first_of}
use Rattle.io_messages.specs.Asked.{Asked, method_of}
use Rattle.io_messages.specs.Asked as asks
use Rattle.io_messages.specs.Replies.{Answered}
use Rattle.io_messages.specs.Replies as answered
use Rattle.io_rights.specs.declared.operations.Operation.TheVariants as op
use Rattle.io_rights.specs.Operations.{single, is_within}
use Rattle.io_rights.proofs.OperationSets.{within_trans}
use Rattle.conn_rules.specs.Acts.{act_of, method_refusals, row_act}
use Rattle.conn_rules.specs.Answers.{Answer, replies, closes, binds, watches, forwards, refuses, ends, hangs_up, silent}
use Rattle.conn_rules.specs.Contexts.{Context}
use Rattle.vfs_journal.specs.Entries.{Sent, Sending, Journal, serves}
use Rattle.vfs_journal.specs.History.{History, births, is_dead, living}
use Rattle.vfs_journal.specs.Outcomes.{Asker, Given, Outcome, token_in, token_of}
use Rattle.vfs_journal.specs.Past.{behind, event_of, history_of}
use Rattle.vfs_journal.specs.Serving.{Moment, asker_of, context_at, moment_of, object_of, outcome_at, outcome_of, outcome_of_sending, request_act}
use Rattle.vfs_journal.specs.Session.{head}
use Rattle.vfs_journal.specs.Starts.{Bound, Start}
use Rattle.vfs_journal.specs.Tokens.{all_given, directory_of}
use Rattle.journal_laws.specs.Laws.{HasSameEndpoints}
use Rattle.journal_laws.proofs.Acts.{IsAnswer, act_answers, unless_holds}
use Rattle.journal_laws.proofs.Among.{some_found}
use Rattle.journal_laws.proofs.Members.{contains_none, found, kept_of}
use Rattle.journal_laws.proofs.Places.{head_is}
use Rattle.journal_laws.proofs.Stepping.{Stepped, none, refusing, sending, serving}
use Rattle.journal_laws.proofs.Steps.{refusals_change_nothing, sendings_wait_last, servings_take_effect}
use Rattle.session_laws.specs.Authority.{EachHas, IsGivenWith, IsGivenWithAuthority}
use Rattle.session_laws.specs.Lineage.{lineage_of}
use Rattle.session_laws.proofs.Allowing.{right_there}
use Rattle.session_laws.proofs.Heard.{Heard, heard, unheard, sending_heard}
use Rattle.session_laws.proofs.LineagesHold.{Holds}
use Rattle.session_laws.proofs.LineagesServed.{the_one}

-- ---- what gives a token

-- the token with this number, of the asker's directory
abbrev token_with : ℕ → Asker → Given
token_with number asker = record { token = number; endpoint = asker.endpoint; server = asker.server; node = asker.node }

record GivesToken (asker : Asker) (answer : Answer) (given : Given) : Type 0 where
  number : ℕ
  is : answer ≡ replies (answered.token number)
  whole : token_with number asker ≡ given

same_given : {x y : Given} → Some x ≡ Some y → x ≡ y
same_given e = cc

reply_gives : (asker : Asker) (a : Answered) (given : Given) → token_in asker a ≡ Some given → GivesToken asker (replies a) given
reply_gives asker (answered.token number) given e = record { number = number; is = refl; whole = same_given e }
reply_gives asker (answered.done m) given e = absurd (cc)
reply_gives asker (answered.fails m s) given e = absurd (cc)
reply_gives asker (answered.counted m x) given e = absurd (cc)
reply_gives asker (answered.payload m bytes) given e = absurd (cc)
reply_gives asker (answered.settled m) given e = absurd (cc)
reply_gives asker (answered.attributes a) given e = absurd (cc)
reply_gives asker (answered.unknown ordinal) given e = absurd (cc)

gives_token : (asker : Asker) (answer : Answer) (given : Given) → token_of asker answer ≡ Some given → GivesToken asker answer given
gives_token asker (replies a) given e = reply_gives asker a given e
gives_token asker (binds birth announced) given e = absurd (cc)
gives_token asker (watches mask) given e = absurd (cc)
gives_token asker closes given e = absurd (cc)
gives_token asker (forwards mount flags rest) given e = absurd (cc)
gives_token asker (refuses status) given e = absurd (cc)
gives_token asker (ends status) given e = absurd (cc)
gives_token asker hangs_up given e = absurd (cc)
gives_token asker silent given e = absurd (cc)

-- only GetToken does, and it needs MODIFY_DIRECTORY
row_needs : (context : Context) (number : ℕ) → (act_of context asks.get_token).answer ≡ replies (answered.token number) → is_within (single op.ModifyDirectory) context.birth.rights ≡ true
unfolding act_of
row_needs context number =
    unless_holds (λ act. act.answer ≡ replies (answered.token number) → is_within (single op.ModifyDirectory) context.birth.rights ≡ true) (first_of (method_refusals context.birth (method_of asks.get_token))) context.position (method_of asks.get_token) (row_act context asks.get_token)
    (λ s e. absurd (cc)) (λ passes e. right_there context asks.get_token op.ModifyDirectory refl passes)

token_needs : (moment : Moment) (request : Asked) (number : ℕ) → (request_act moment request).answer ≡ replies (answered.token number) → is_within (single op.ModifyDirectory) moment.bound.birth.rights ≡ true
token_needs moment asks.get_token number e = row_needs (context_at moment) number e
token_needs moment request number e = absurd (subst (IsAnswer moment.room moment.tree request) e (act_answers (context_at moment) request).0)

-- it is of the endpoint and the directory of a connection that has MODIFY_DIRECTORY
pub record IsGivenBy (bound : Bound) (given : Given) : Type 0 where
  pub endpoint : bound.endpoint ≡ given.endpoint
  pub server : bound.server ≡ given.server
  pub node : bound.birth.node ≡ given.node
  pub has : is_within (single op.ModifyDirectory) bound.birth.rights ≡ true

given_by : (moment : Moment) (sending' : Sending) (outcome : Outcome) (given : Given) → Heard moment sending' outcome → outcome.token ≡ Some given → IsGivenBy moment.bound given
given_by moment sending' outcome given (unheard binds' onward nothing change) e = absurd (let wrong : None ≡ Some given = sym nothing ∙ e in cc)
given_by moment sending' outcome given (heard bytes handles txid request is read whole) e =
    let token = gives_token (asker_of moment.bound txid (object_of request)) (request_act moment request).answer given (sym (ap (λ (o : Outcome). o.token) whole) ∙ e) in
    record {
      endpoint = ap (λ (g : Given). g.endpoint) token.whole;
      server = ap (λ (g : Given). g.server) token.whole;
      node = ap (λ (g : Given). g.node) token.whole;
      has = token_needs moment request token.number token.is;
    }

-- ---- what was given

pub record IsGivenOn (start : Start) (history : History) (given : Given) : Type 0 where
  pub bound : Bound
  pub born : Contains (births start history) bound
  pub by : IsGivenBy bound given

abbrev pub AreGiven : Start → History → Type 0
AreGiven start history = (given : Given) → Contains (all_given history) given → IsGivenOn start history given

same_given_on : (start : Start) (now past : History) → HasSameEndpoints start now past → AreGiven start past → AreGiven start now
same_given_on start now past same h given there =
    let one = h given (subst (λ (tokens : List Given). Contains tokens given) same.tokens there) in
    record { bound = one.bound; born = subst (λ (bounds : List Bound). Contains bounds one.bound) (sym same.born) one.born; by = one.by }

served_given : (start : Start) (past : History) (k : Sent) → head start past k.endpoint ≡ Some k → AreGiven start past → AreGiven start (behind start (serves k) past)
unfolding event_of
served_given start past k first h given there =
    let effect = servings_take_effect start past k in
    let b = some_found (λ bound. bound.endpoint == k.endpoint) (living start past) (head_is start past k first).bound in
    let born = (kept_of (λ bound. not (is_dead past bound.endpoint)) (births start past) b.0 b.2).0 in
    let whole : outcome_of start past k ≡ outcome_of_sending (moment_of start past b.0) k.sending = ap (outcome_at start past k) b.1 in
    by_side b.0 born whole effect.born (Contains-append_cases (all_given past) (option_to_list (outcome_of start past k).token) given (subst (λ (tokens : List Given). Contains tokens given) effect.tokens there)) where
      still_born : (bound : Bound) → Contains (births start past) bound → births start (behind start (serves k) past) ≡ births start past ++ option_to_list (outcome_of start past k).bound → Contains (births start (behind start (serves k) past)) bound
      still_born bound born more = subst (λ (bounds : List Bound). Contains bounds bound) (sym more) (Contains-append_left (births start past) (option_to_list (outcome_of start past k).bound) bound born)

      by_side : (b : Bound) → Contains (births start past) b → outcome_of start past k ≡ outcome_of_sending (moment_of start past b) k.sending → births start (behind start (serves k) past) ≡ births start past ++ option_to_list (outcome_of start past k).bound →
          Contains (all_given past) given ⊎ Contains (option_to_list (outcome_of start past k).token) given → IsGivenOn start (behind start (serves k) past) given
      by_side b born whole more (inl old) =
          let one = h given old in
          record { bound = one.bound; born = still_born one.bound one.born more; by = one.by }
      by_side b born whole more (inr new) = record {
        bound = b;
        born = still_born b born more;
        by = given_by (moment_of start past b) k.sending (outcome_of_sending (moment_of start past b) k.sending) given (sending_heard (moment_of start past b) k.sending)
            (sym (ap (λ (o : Outcome). o.token) whole) ∙ the_one (outcome_of start past k).token given new);
      }

pub are_given : (start : Start) (journal : Journal) → Stepped start journal → AreGiven start (history_of start journal)
unfolding history_of
are_given start journal none = λ given there. absurd (contains_none given there)
are_given start journal (refusing earlier endpoint why h all) =
    same_given_on start _ (history_of start earlier) (refusals_change_nothing start (history_of start earlier) endpoint why).same (are_given start earlier h)
are_given start journal (sending earlier one h next) =
    same_given_on start _ (history_of start earlier) (sendings_wait_last start (history_of start earlier) one).same (are_given start earlier h)
are_given start journal (serving earlier one h all first) = served_given start (history_of start earlier) one first (are_given start earlier h)

pub given_with_authority : (start : Start) (history : History) (given : Given) → Holds start history → IsGivenOn start history given → IsGivenWithAuthority start history given
given_with_authority start history given holds one = record {
  bound = one.bound;
  born = one.born;
  endpoint = one.by.endpoint;
  server = one.by.server;
  node = one.by.node;
  allowed = subst (λ (n : ℕ). EachHas op.ModifyDirectory (lineage_of start history n)) one.by.endpoint
      (All-weaker (λ member. IsTrue (is_within one.bound.birth.rights member)) (λ member. IsTrue (is_within (single op.ModifyDirectory) member))
      (λ member own. within_trans (single op.ModifyDirectory) one.bound.birth.rights member one.by.has own) (lineage_of start history one.bound.endpoint) (holds.rights one.bound one.born));
}

-- ---- the directory of a token

target_by : (start : Start) (past : History) (server token target : ℕ) → Holds start past → AreGiven start past → (o : Option Given) → find (λ given. given.token == token) (all_given past) ≡ o →
    option_map_or (λ given. if given.server == server then Some given.node else None) o None ≡ Some target → IsGivenWith start past token
target_by start past server token target holds given None first e = absurd (cc)
target_by start past server token target holds given (Some one) first e = record {
  given = one;
  first = first;
  authority = given_with_authority start past one holds (given one (found (λ given. given.token == token) (all_given past) one first).0);
}

pub target_given : (start : Start) (past : History) (server token target : ℕ) → Holds start past → AreGiven start past → directory_of past server token ≡ Some target → IsGivenWith start past token
target_given start past server token target holds given e =
    target_by start past server token target holds given (find (λ given. given.token == token) (all_given past)) refl e
