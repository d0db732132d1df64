-- The code by which worlds are told apart.
use Rattle.std.specs.Prelude.{ℕ, Bool, List, refl}
use Rattle.std.specs.Coded.{Coded, code_by, coded×, coded_ℕ, coded_bool, coded_list}
use Rattle.link_admission.specs.Standings.{Known, known_code}
use Rattle.message_queues.specs.Queues.{Queues, queues_code}
use Rattle.vfs_server.specs.Codes.{server_code}
use Rattle.vfs_server.specs.Servers.{Server}
use Rattle.vfs_world.specs.World.{World}

abbrev pub world_code : Coded World
world_code =
    code_by (List Server × (Queues × (Known × (ℕ × (Bool × ℕ)))))
    (coded× (coded_list server_code) (coded× queues_code (coded× known_code (coded× coded_ℕ (coded× coded_bool coded_ℕ)))))
    (λ w. (w.servers, (w.queues, (w.known, (w.places, (w.spent, w.frames))))))
    (λ p. record { servers = p.0; queues = p.1.0; known = p.1.1.0; places = p.1.1.1.0; spent = p.1.1.1.1.0; frames = p.1.1.1.1.1 })
    (λ _. refl)
