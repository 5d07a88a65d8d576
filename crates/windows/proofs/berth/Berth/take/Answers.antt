use Rattle.windows.proofs.{Words.{◌≡◌, ap, refl, sym, length, ◌∙◌, rules, made_in}, Letters.{all_handed, is_for, still_for}}
use Rattle.windows.proofs.berth.Berth.take.Goals as goal

pub turn-requires-clause-serves : goal.turn-requires-clause-serves
turn-requires-clause-serves g c κs within = is_for _ _ _ refl c.requires.tray

pub shape_of-self : goal.shape_of-self
shape_of-self g c = sym (still_for _ _ c.turn.ensures.serves _ _ refl c.requires.tray).pending

pub returns-in_err-entry-clause-tray : goal.returns-in_err-entry-clause-tray
returns-in_err-entry-clause-tray g c =
    let is = still_for _ _ c.turn.ensures.serves _ _ refl c.requires.tray in
    let same : c.tray-1.given.0 ≡ c.turn.new.added.tray.now = search (rules, is.tray) in
    ap length same ∙ (is.count ∙ sym c.requires.tray)

pub returns-in_err-push-clause-tray : goal.returns-in_err-push-clause-tray
returns-in_err-push-clause-tray g c =
    let is = still_for _ _ c.turn.ensures.serves _ _ refl c.requires.tray in
    let same : c.tray-1.given.0 ≡ c.turn.new.added.tray.now = search (rules, is.tray) in
    ap length same ∙ (is.count ∙ sym c.requires.tray)

pub returns-clause-tray : goal.returns-clause-tray
returns-clause-tray g c =
    let is = still_for _ _ c.turn.ensures.serves _ _ refl c.requires.tray in
    let same : c.tray-1.given.0 ≡ c.turn.new.added.tray.now = search (rules, is.tray) in
    ap length same ∙ (is.count ∙ sym c.requires.tray)

pub returns-clause-pending : goal.returns-clause-pending
returns-clause-pending g c =
    let made = made_in g.M.Process.mind c.args.streams.now c.args.self.now.seat c.args.event in
    (all_handed _ _ made.added c.in_ok-entry.ensures.added).pending

pub returns-clause-letters : goal.returns-clause-letters
returns-clause-letters g c =
    let made = made_in g.M.Process.mind c.args.streams.now c.args.self.now.seat c.args.event in
    let is = still_for _ _ c.turn.ensures.serves _ _ refl c.requires.tray in
    let same : c.tray-1.given.0 ≡ c.turn.new.added.tray.now = search (rules, is.tray) in
    let handed = all_handed _ _ made.added c.in_ok-entry.ensures.added in
    (handed.letters.0, handed.letters.1, same ∙ handed.letters.2)
