use Rattle.process_api.proofs.{Basics.{◌/◌, arith, replicate, get_or-replicate, is_set, most_processes, WORDS}, BitWords.{none_set}, Told.{members-none}}
use Rattle.process_api.proofs.proc_set.ProcSet.new.Goals as goal

pub returns : goal.returns
returns c = members-none most_processes (is_set (replicate WORDS 0)) (λ i low. none_set (replicate WORDS 0) i (get_or-replicate WORDS (i / 64) 0 0 (omega arith)))
