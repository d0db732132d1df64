-- What waits, endpoint by endpoint, and at which server each endpoint is bound.
use Rattle.std.specs.Prelude.{◌≡◌, ◌<◌, ◌==◌, ℕ, All, IsSome, List, [], length, sum_by, slice_get, Option, Some, None, if◌then◌else◌, refl}
use Rattle.std.specs.Coded.{Coded, code_by, coded×, coded_ℕ, coded_list, coded_option}
use Rattle.std.specs.FinMap as map
use Rattle.std.specs.Option.{option_and_then, option_map_or}
use Rattle.std.specs.Ordering.{nat_cmp}
use Rattle.vfs_journal.specs.Entries.{Sending, Sent, message, hang_up}

-- one endpoint: the server at which it is bound, and what waits on it, in order of sending
pub record Mailbox : Type 0 where
  pub server : Option ℕ
  pub queue : List Sent

-- an endpoint without a mailbox isn't bound, and nothing waits on it
pub record Queues : Type 0 where
  pub boxes : map.FinMap nat_cmp Mailbox
  pub servers : ℕ

-- ---- what is looked up

abbrev pub queue_of : Queues → ℕ → List Sent
queue_of queues endpoint = option_map_or (λ box. box.queue) (map.get queues.boxes endpoint) []

abbrev pub server_of : Queues → ℕ → Option ℕ
server_of queues endpoint = option_and_then (λ box. box.server) (map.get queues.boxes endpoint)

-- the first entry that waits on an endpoint
abbrev pub head_of : Queues → ℕ → Option Sent
head_of queues endpoint = slice_get (queue_of queues endpoint) 0

-- how many wait
abbrev pub count : Queues → ℕ
count queues = sum_by (λ box. length box.queue) (map.values queues.boxes)

-- a place lies above those of all that wait
abbrev pub IsAbove : Queues → ℕ → Type 0
IsAbove queues place = (endpoint : ℕ) → All (λ sent. sent.place < place) (queue_of queues endpoint)

-- an endpoint is bound, and something waits on it
abbrev pub IsReady : Queues → ℕ → Type 0
IsReady queues endpoint = IsSome (server_of queues endpoint) × IsSome (head_of queues endpoint)

-- ---- what changes

-- nothing waits, and nothing is bound
pub record IsNew (queues : Queues) (count : ℕ) : Type 0 where
  pub waiting : (endpoint : ℕ) → queue_of queues endpoint ≡ []
  pub bound : (endpoint : ℕ) → server_of queues endpoint ≡ None
  pub those : queues.servers ≡ count

-- this waits on one endpoint now, and all else is as it was
pub record Requeues (old : Queues) (endpoint : ℕ) (queue : List Sent) (new : Queues) : Type 0 where
  pub waiting : (other : ℕ) → queue_of new other ≡ (if other == endpoint then queue else queue_of old other)
  pub bound : (other : ℕ) → server_of new other ≡ server_of old other
  pub those : new.servers ≡ old.servers

-- one endpoint is bound at this server now, and all else is as it was
pub record Binds (old : Queues) (endpoint server : ℕ) (new : Queues) : Type 0 where
  pub waiting : (other : ℕ) → queue_of new other ≡ queue_of old other
  pub bound : (other : ℕ) → server_of new other ≡ (if other == endpoint then Some server else server_of old other)
  pub those : new.servers ≡ old.servers

-- ---- how these values are stored

abbrev pub parts_of : Sending → Option (List ℕ × List ℕ)
parts_of (message bytes handles) = Some (bytes, handles)
parts_of hang_up = None

abbrev pub sending_from : Option (List ℕ × List ℕ) → Sending
sending_from (Some parts) = message parts.0 parts.1
sending_from None = hang_up

pub sending_back : (sending : Sending) → sending_from (parts_of sending) ≡ sending
sending_back (message bytes handles) = refl
sending_back hang_up = refl

abbrev pub sending_code : Coded Sending
sending_code = code_by (Option (List ℕ × List ℕ)) (coded_option (coded× (coded_list coded_ℕ) (coded_list coded_ℕ))) parts_of sending_from sending_back

abbrev pub sent_code : Coded Sent
sent_code =
    code_by
    (ℕ × (ℕ × (Sending × Option ℕ)))
    (coded× coded_ℕ (coded× coded_ℕ (coded× sending_code (coded_option coded_ℕ))))
    (λ sent. (sent.place, (sent.endpoint, (sent.sending, sent.origin))))
    (λ parts. record { place = parts.0; endpoint = parts.1.0; sending = parts.1.1.0; origin = parts.1.1.1 })
    (λ _. refl)

abbrev pub mailbox_code : Coded Mailbox
mailbox_code =
    code_by
    (Option ℕ × List Sent)
    (coded× (coded_option coded_ℕ) (coded_list sent_code))
    (λ box. (box.server, box.queue))
    (λ parts. record { server = parts.0; queue = parts.1 })
    (λ _. refl)

abbrev pub queues_code : Coded Queues
queues_code =
    code_by
    (map.FinMap nat_cmp Mailbox × ℕ)
    (coded× (map.code coded_ℕ mailbox_code) coded_ℕ)
    (λ queues. (queues.boxes, queues.servers))
    (λ parts. record { boxes = parts.0; servers = parts.1 })
    (λ _. refl)
