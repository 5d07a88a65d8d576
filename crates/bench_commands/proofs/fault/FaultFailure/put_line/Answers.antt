use Rattle.bench_commands.proofs.fault.FaultFailure.put_line.Goals as goal

pub returns-in-Form : goal.returns-in-Form
returns-in-Form g c = rw c.in-Form.is c.tell_text.ensures

pub returns-in-WordsMemory : goal.returns-in-WordsMemory
returns-in-WordsMemory g c = rw c.in-WordsMemory.is c.tell_text-in-WordsMemory.ensures

pub returns-in-Unreadable : goal.returns-in-Unreadable
returns-in-Unreadable g c = rw c.in-Unreadable.is c.tell_text-in-Unreadable.ensures

pub returns-in-TooLong : goal.returns-in-TooLong
returns-in-TooLong g c = rw c.in-TooLong.is c.tell_text-in-TooLong.ensures

pub returns-in-Scenario : goal.returns-in-Scenario
returns-in-Scenario g c = rw c.in-Scenario.is c.put_refusal.ensures
