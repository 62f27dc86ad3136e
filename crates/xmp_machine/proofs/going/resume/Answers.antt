use Rattle.xmp_machine.proofs.Resumes.{resumes}
use Rattle.xmp_machine.proofs.going.resume.Goals as goal

pub returns-in-Meets-clause-fits : goal.returns-in-Meets-clause-fits
returns-in-Meets-clause-fits c =
    resumes c.args.code.now c.args.state.now c.resume_at.new.state c.in-Meets.e c.in-Meets.mark c.resume_at.result c.requires.valid c.requires.state c.in-Meets.is
    c.resume_at.ensures.ok c.resume_at.ensures.keeps c.resume_at.ensures.past c.resume_at.ensures.err
