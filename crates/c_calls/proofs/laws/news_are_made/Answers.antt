use Rattle.c_calls.proofs.News.{news_are_made}
use Rattle.c_calls.proofs.laws.news_are_made.Goals as goal

pub returns : goal.returns
returns c = news_are_made
