use Rattle.study_commands.proofs.{Naming.{network_read, network_refused, stays_once, taken_once}, Words.{rules, IsOfFiles}}
use Rattle.study_commands.proofs.file.files_of.Goals as goal

pub returns-in_err-network-clause-why : goal.returns-in_err-network-clause-why
returns-in_err-network-clause-why g c =
    let stays = stays_once g.I.Read.remaining c.args.texts.now c.args.input.now c.table_of.new.input c.network_of.new.input
    c.requires c.in_ok-scenario.ensures.untouched c.in_err-network.ensures.untouched in
    let why : IsOfFiles (g.I.Read.remaining c.args.input.now) c.args.texts.now c.in_err-network.field-0.0 =
    network_refused g.I.Read.remaining c.args.texts.now c.args.input.now c.table_of.new.input c.network_of.new.input _
    stays c.in_err-network.ensures.why in
    search rules

pub returns-in_err-network-clause-taken : goal.returns-in_err-network-clause-taken
returns-in_err-network-clause-taken g c =
    let stays = stays_once g.I.Read.remaining c.args.texts.now c.args.input.now c.table_of.new.input c.network_of.new.input
    c.requires c.in_ok-scenario.ensures.untouched c.in_err-network.ensures.untouched in
    taken_once g.I.Read.remaining c.args.texts.now c.args.input.now c.table_of.new.input c.network_of.new.input _ stays
    c.in_ok-scenario.ensures.taken c.in_err-network.ensures.taken

pub returns-clause-files : goal.returns-clause-files
returns-clause-files g c =
    let stays = stays_once g.I.Read.remaining c.args.texts.now c.args.input.now c.table_of.new.input c.network_of.new.input
    c.requires c.in_ok-scenario.ensures.untouched c.in_ok-network.ensures.untouched in
    record {
      scenario = c.in_ok-scenario.ensures.table;
      network = network_read g.I.Read.remaining c.args.texts.now c.args.input.now c.table_of.new.input
          c.network_of.new.input _ stays c.in_ok-network.ensures.network;
    }

pub returns-clause-taken : goal.returns-clause-taken
returns-clause-taken g c =
    let stays = stays_once g.I.Read.remaining c.args.texts.now c.args.input.now c.table_of.new.input c.network_of.new.input
    c.requires c.in_ok-scenario.ensures.untouched c.in_ok-network.ensures.untouched in
    taken_once g.I.Read.remaining c.args.texts.now c.args.input.now c.table_of.new.input c.network_of.new.input _ stays
    c.in_ok-scenario.ensures.taken c.in_ok-network.ensures.taken
