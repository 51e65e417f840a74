use Rattle.adhost_run.proofs.running.exit_number.Goals as goal

pub returns : goal.returns
returns g c = record {
  how = c.run-status.result;
  is = c.number.ensures;
  run = record {
    answer = c.run-status.ensures.answer;
    usage = c.run-status.ensures.usage;
    complete = c.run-status.ensures.complete;
    reads = c.run-status.ensures.reads;
    sink = c.run-status.ensures.sink;
    first_part = c.run-status.ensures.part;
    still = c.run-status.ensures.still;
    confined = c.run-status.ensures.confined;
  };
}
