use Rattle.js_image.proofs.reading.value_at.Goals as goal

pub returns-in-Some : goal.returns-in-Some
returns-in-Some c = rw c.in-Some.is at c.soon_at.ensures

pub returns-in-None : goal.returns-in-None
returns-in-None c = c.value_far.ensures
