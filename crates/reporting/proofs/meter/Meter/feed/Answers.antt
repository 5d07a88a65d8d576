use Rattle.reporting.proofs.{Words.{◌≡◌, ap, sym, ◌∙◌, arith, eq-eqb, eqb-true, both_ways, EntryRecord, all_turned, noted_turns, counted}, Closing.{meter_fed, meter_late, meter_other}}
use Rattle.reporting.proofs.meter.Meter.feed.Goals.{else-eq-via-then-eq+else-entry-self, else-eq-via-else-eq}
use Rattle.reporting.proofs.meter.Meter.feed.Goals as goal

pub returns-then-entry-self : goal.returns-then-entry-self
returns-then-entry-self c = λ S layer q p trace h until.
    let m = c.args.self.now in
    let receiver : c.entry.inside.key.receiver ≡ c.args.entry.now.key.receiver = ap (λ (e : EntryRecord). e.key.receiver) c.entry.view_is in
    let tick : c.entry.inside.key.tick ≡ c.args.entry.now.key.tick = ap (λ (e : EntryRecord). e.key.tick) c.entry.view_is in
    meter_fed S layer q p trace c.args.entry.now m h until (sym receiver ∙ eqb-true _ _ (sym c.eq.ensures ∙ c.if-eq.true)) (omega (arith, tick, c.if-entry-self.true)) c.note_all.new.self
    (c.note_all.ensures
    ∙ ap (λ notes. all_turned counted m.pair (noted_turns m.layer m.subject c.entry.inside.key.tick notes)) c.as_slice.ensures.value
    ∙ ap (λ (e : EntryRecord). all_turned counted m.pair (noted_turns m.layer m.subject e.key.tick e.notes)) c.entry.view_is)

pub returns-else-eq : goal.returns-else-eq
returns-else-eq c = λ S layer q p trace h until.
    let m = c.args.self.now in
    let receiver : c.entry.inside.key.receiver ≡ c.args.entry.now.key.receiver = ap (λ (e : EntryRecord). e.key.receiver) c.entry.view_is in
    let tick : c.entry.inside.key.tick ≡ c.args.entry.now.key.tick = ap (λ (e : EntryRecord). e.key.tick) c.entry.view_is in
    elim c.else-eq.branch [
      | else-eq-via-then-eq+else-entry-self w ↦ meter_late S layer q p trace c.args.entry.now m h until (omega (arith, tick, w.if-entry-self.false))
      | else-eq-via-else-eq w ↦ meter_other S layer q p trace c.args.entry.now m h until (λ e. both_ways _ (sym c.eq.ensures ∙ w.if-eq.false) (eq-eqb c.entry.inside.key.receiver m.observer (receiver ∙ e)))
    ]
