-- How a run opens.
use Rattle.event_list.proofs.Words.{◌≡◌, ◌-◌, sym, ap, ◌∙◌, List, [], slice_get, map, Mind, numbers_to, Record, opening_mind, setting_of, Stands, Events, Process, starts, opening, opened, opening_world, opening_reached, setting_sound, number_at}
use Rattle.{event_list.proofs.Standing.{opening_posted}, std.proofs.lemmas.Simd.{map-map}}
use Rattle.scenario_record.specs.Ranges.{IsInRange}

-- machines that open as the scenario says stand at the opening
pub opening_stands : (s : Record) → IsInRange s → (processes : List (Process Mind)) (pending : Events) → processes ≡ map opened (map (opening_mind s) (numbers_to s.processes)) → pending ≡ starts s.processes → Stands (setting_of s) processes pending [] []
opening_stands s is processes pending opens firsts = record {
  world = opening (setting_of s);
  is_world = opening_world (setting_of s) (setting_sound s is);
  reached = opening_reached (setting_of s);
  posted = opening_posted (setting_of s);
  process = λ p own. ap (λ ps. slice_get ps (p - 1)) (opens ∙ map-map opened (opening_mind s) (numbers_to s.processes)) ∙ number_at (λ q. opened (opening_mind s q)) s.processes p own.0 own.1;
  events = sym firsts;
}
